use Rattle.std.proofs.Common.{◌+◌, ap, arith, length, length-take}
use Rattle.ack.proofs.Tries.{exit_answer}
use Rattle.coding.specs.Words.{no, ok}
use Rattle.coding.specs.Varint.{var_size}
use Rattle.coding.specs.Said.{answer_of}
use Rattle.coding.specs.Writing.{length_of}
use Rattle.coding.proofs.Laws.{sized_bytes, sized_not, size_le}
use Rattle.row_out.proofs.Laws.{sized_14}
use Rattle.frame_out.proofs.Cuts.{cut_past, cut_short, cut_some}
use Rattle.frame_out.proofs.closes.kept.Goals as goal

pub returns-in_err-all : goal.returns-in_err-all
unfolding length_of
returns-in_err-all c =
    rw (exit_answer _ _ c.from_residual.ensures, cut_past _ _ _ (sized_not _ _ _ c.size.ensures c.in_err-all.was)) (ap no (sized_14 _ _ _ c.size.ensures c.in_err-all.was))

pub overflow_add-all : goal.overflow_add-all
overflow_add-all c =
    let h = sized_bytes _ _ _ c.size.ensures c.in_ok-all.was in
    omega (arith, h.1, size_le _ h.0)

pub returns-then-max_len-all : goal.returns-then-max_len-all
unfolding answer_of length_of
returns-then-max_len-all c =
    let h = sized_bytes _ _ _ c.size.ensures c.in_ok-all.was in
    let a = c.args in
    rw (cut_short (a.fixed + var_size (length a.reason.now)) a.max_len a.reason.now h.0 (omega (arith, h.1)))

pub returns : goal.returns
unfolding answer_of length_of
returns c =
    let h = sized_bytes _ _ _ c.size.ensures c.in_ok-all.was in
    let a = c.args in
    rw (cut_some (a.fixed + var_size (length a.reason.now)) a.max_len a.reason.now h.0 (omega (arith, h.1))) (ap ok (simp length-take (omega (arith, h.1, c.min.ensures))))
