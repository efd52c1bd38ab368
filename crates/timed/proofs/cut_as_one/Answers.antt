use Rattle.std.proofs.Common.{sym, arith}
use Rattle.std.proofs.lemmas.Result.{err_from_is_err_and}
use Rattle.coding.specs.Said.{answer_of}
use Rattle.number.proofs.Cuts.{cut_is}
use Rattle.timed.specs.Timed.{cut_said}
use Rattle.timed.proofs.cut_as_one.Goals as goal

pub returns-in_err-len : goal.returns-in_err-len
unfolding cut_said answer_of
returns-in_err-len c =
    let p = err_from_is_err_and c.from_residual.result c.from_residual.ensures.1 in
    rw (p.1, p.2, ← c.new.ensures, c.in_err-len.was)

pub overflow_mul-result : goal.overflow_mul-result
unfolding answer_of
overflow_mul-result c =
    let k = (cut_is _ _ _ (sym (rw c.in_ok-len.was at c.new.ensures))).fit.high in
    omega arith

pub overflow_add-result : goal.overflow_add-result
unfolding answer_of
overflow_add-result c =
    let k = (cut_is _ _ _ (sym (rw c.in_ok-len.was at c.new.ensures))).fit.high in
    omega (arith, c.from.ensures)

pub returns : goal.returns
unfolding cut_said answer_of
returns c = rw (c.from.ensures, ← c.new.ensures, c.in_ok-len.was)
