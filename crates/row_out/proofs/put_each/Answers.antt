use Rattle.std.proofs.Common.{◌≡◌, arith, take}
use lib.Seq.{take_all}
use Rattle.coding.proofs.Writes.{so_none, put_fits}
use Rattle.row_out.specs.Limits.{vars_bytes}
use Rattle.row_out.proofs.Laws.{so_more}
use Rattle.row_out.proofs.put_each.Goals as goal

pub loop-val-init : goal.loop-val-init
unfolding vars_bytes
loop-val-init c = so_none _ _

pub loop-val-preserved : goal.loop-val-preserved
loop-val-preserved c =
    so_more c.args.vals.now c.loop-val.val-index (omega arith) c.requires.0 (omega arith) c.requires.1 c.loop-val.invariant c.write_var-p.ensures

pub returns : goal.returns
returns c =
    let l = c.loop-val in
    let v = c.args.vals.now in
    let e : take l.val-index v ≡ v = take_all l.val-index v (omega arith) in
    put_fits _ _ _ c.requires.1 (rw e at l.invariant)
