use Rattle.std.proofs.Common.{arith}
use Rattle.ack_out.proofs.Lists.{kept}
use Rattle.ack_out.proofs.Turns.{sum_start, sum_on, sum_end}
use Rattle.ack_out.proofs.Ranges.blocks_len.Goals as goal

pub overflow_step-i : goal.overflow_step-i
overflow_step-i c = omega (arith, (kept _ c.args.self.keeps).some)

pub loop-i-init : goal.loop-i-init
loop-i-init c = sum_start _ (kept _ c.args.self.keeps)

pub loop-i-preserved : goal.loop-i-preserved
loop-i-preserved c =
    rw c.var_size-len.ensures.0 (sum_on _ _ _ _ c.loop-i.invariant (omega arith) c.step.ensures)

pub returns : goal.returns
returns c =
    let l = c.loop-i in
    (sum_end _ _ _ l.invariant (omega arith), omega (arith, l.invariant.few, c.requires))
