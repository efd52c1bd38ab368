use Rattle.std.proofs.Common.{rules, of_calls, nat_lt}
use Rattle.std.proofs.lemmas.Fn.{always_returns_same}
use Rattle.ack_out.proofs.Lists.{ascends_by}
use Rattle.ack_out.proofs.ascends.Goals as goal

pub returns : goal.returns
returns c =
    let below = always_returns_same _ _ _ (λ a r f k. search (rules, of_calls)) in
    ascends_by _ _ (c.is_sorted_by.ensures.cases nat_lt below)
