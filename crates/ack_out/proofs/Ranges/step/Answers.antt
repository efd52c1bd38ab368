use Rattle.std.proofs.Common.{refl, arith}
use Rattle.ack_out.proofs.Lists.{kept, stepped}
use Rattle.ack_out.proofs.Ranges.step.Goals as goal

pub overflow_sub-result : goal.overflow_sub-result
overflow_sub-result c = omega (arith, (stepped c.args.self.list.now c.args.i (kept _ c.args.self.keeps) c.requires).above)

pub overflow_sub-result-2 : goal.overflow_sub-result-2
overflow_sub-result-2 c = omega (arith, (stepped c.args.self.list.now c.args.i (kept _ c.args.self.keeps) c.requires).above)

pub returns : goal.returns
returns c = (refl, (stepped c.args.self.list.now c.args.i (kept _ c.args.self.keeps) c.requires).small)
