use Rattle.std.proofs.lemmas.Result.{err_from_is_err_and}
use Rattle.coding.specs.Said.{answer_of}
use Rattle.number.specs.Said.{full_of}
use Rattle.timed.proofs.full.Goals as goal

pub returns-in_err-n : goal.returns-in_err-n
unfolding full_of answer_of
returns-in_err-n c =
    let p = err_from_is_err_and c.from_residual.result c.from_residual.ensures.1 in
    rw (p.1, p.2, ← c.expand.ensures, c.in_err-n.was)

pub returns : goal.returns
unfolding full_of answer_of
returns c = rw (← c.expand.ensures, c.in_ok-n.was)
