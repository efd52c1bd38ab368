use Rattle.std.proofs.Common.{rules, of_calls}
use Rattle.number.specs.Cutting.{cut}
use Rattle.number.specs.Expanding.{expanded}
use Rattle.timed.proofs.guobbarel_timed_expand.Goals as goal

pub returns : goal.returns
returns c = c.gather.ensures (λ v. expanded (cut c.args.len v) c.args.expected) (λ v r p. search (rules, of_calls))
