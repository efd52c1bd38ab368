use lib.Seq.{take_all, paste-zero, paste-suc}
use native.Mathlib.Numerals.{add-one}
use native.Mathlib.Omega.{arith}
use mathlib.Core.Path.{◌≡◌, ◌∙◌}
use lib.ListN.{length}
use Rattle.coding.specs.Bytes.{splice}
use Rattle.coding.proofs.Writes.{put_not, put_fits}
use Rattle.coding.proofs.put_slice.Goals as goal

pub returns-then-buf-at : goal.returns-then-buf-at
returns-then-buf-at c = put_not _ _ _ (grind arith)

pub loop-i-init : goal.loop-i-init
loop-i-init c = paste-zero c.args.buf.now c.args.at c.args.bytes.now

pub loop-i-preserved : goal.loop-i-preserved
loop-i-preserved c =
    let l = c.loop-i in
    let a = c.args in
    rw (l.invariant, add-one) (paste-suc a.buf.now a.at a.bytes.now l.i 0 (omega arith) (omega arith))

pub returns : goal.returns
unfolding splice
returns c =
    let l = c.loop-i in
    let a = c.args in
    let e : l.i ≡ length a.bytes.now = omega arith in
    put_fits _ _ _ (omega arith)
    (record {
      place = omega arith;
      bytes = l.invariant ∙ rw e (rw (take_all (length a.bytes.now) a.bytes.now (omega arith)));
    })
