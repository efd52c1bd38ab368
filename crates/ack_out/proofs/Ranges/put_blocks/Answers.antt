use Rattle.std.proofs.Common.{arith}
use Rattle.ack_out.proofs.Lists.{kept}
use Rattle.ack_out.proofs.Turns.{puts_start, puts_on, puts_end}
use Rattle.ack_out.proofs.Ranges.put_blocks.Goals as goal

pub overflow_step-i : goal.overflow_step-i
overflow_step-i c = omega (arith, (kept _ c.args.self.keeps).some)

pub loop-i-init : goal.loop-i-init
loop-i-init c = puts_start _ _ _ (kept _ c.args.self.keeps)

pub loop-i-preserved : goal.loop-i-preserved
loop-i-preserved c =
    puts_on _ _ _ _ _ _ c.loop-i.invariant c.requires _ _ _ (omega arith) c.step.ensures c.write_var-next.ensures

pub returns : goal.returns
returns c = puts_end _ _ _ _ _ _ c.loop-i.invariant c.requires (omega arith)
