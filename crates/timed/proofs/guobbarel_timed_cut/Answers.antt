use Rattle.std.proofs.Common.{rules, of_calls}
use Rattle.number.specs.Cutting.{cut_made}
use Rattle.timed.specs.Timed.{cut_said}
use Rattle.timed.proofs.guobbarel_timed_cut.Goals as goal

pub returns : goal.returns
returns c = c.gather.ensures (λ n. cut_said (cut_made n c.args.acked)) (λ n r p. search (rules, of_calls))
