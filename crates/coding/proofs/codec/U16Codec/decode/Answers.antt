use native.Mathlib.Omega.{arith}
use Rattle.std.proofs.lemmas.Result.{err_from_is_err_and}
use Rattle.coding.proofs.codec.U16Codec.decode.Goals as goal

pub returns-in_err-x : goal.returns-in_err-x
returns-in_err-x c =
    let p = err_from_is_err_and c.from_residual.result c.from_residual.ensures.1 in
    rw (p.1, p.2) (rw c.in_err-x.was at c.be.ensures.reads)

pub overflow_cast-result : goal.overflow_cast-result
overflow_cast-result c = omega (arith, rw c.in_ok-x.was at c.be.ensures.below)

pub returns : goal.returns
returns c = rw c.in_ok-x.was at c.be.ensures.reads
