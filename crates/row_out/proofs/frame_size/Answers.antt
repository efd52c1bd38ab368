use Rattle.std.proofs.Common.{◌+◌, ap, refl, arith, length}
use Rattle.ack.proofs.Tries.{exit_answer}
use Rattle.coding.specs.Words.{ok}
use Rattle.coding.specs.Said.{answer_of}
use Rattle.coding.specs.Writing.{length_of}
use Rattle.row_out.specs.Limits.{vars_bytes}
use Rattle.row_out.proofs.Laws.{Held, length_out, out_ok, out_long, size_held, size_not}
use Rattle.row_out.proofs.frame_size.Goals as goal

pub returns-in_err-n : goal.returns-in_err-n
unfolding length_of
returns-in_err-n c =
    rw (exit_answer _ _ c.from_residual.ensures, size_not _ _ _ c.vars_len.ensures _ c.args.bytes.now c.in_err-n.was (omega arith))

pub overflow_sub-n : goal.overflow_sub-n
overflow_sub-n c = (size_held _ _ _ c.vars_len.ensures _ c.in_ok-n.was).short

pub returns-then-n-bytes : goal.returns-then-n-bytes
unfolding answer_of length_of
returns-then-n-bytes c =
    let a = c.args in
    let h = size_held _ _ _ c.vars_len.ensures _ c.in_ok-n.was in
    rw (out_long a.vals.now a.bytes.now (omega (arith, h.long)))

pub returns : goal.returns
unfolding answer_of length_of
returns c =
    let a = c.args in
    let h = size_held _ _ _ c.vars_len.ensures _ c.in_ok-n.was in
    let k : Held a.vals.now a.bytes.now (length (vars_bytes a.vals.now) + length a.bytes.now) = record { small = h.small; short = omega arith; long = refl } in
    rw (out_ok a.vals.now a.bytes.now _ k) (ap ok (omega (arith, length_out a.vals.now a.bytes.now)))
