use Rattle.std.proofs.Common.{arith}
use Rattle.ack.proofs.Tries.{exit_answer}
use Rattle.coding.specs.Said.{answer_of}
use Rattle.coding.proofs.Writes.{written_no, written_short, written_ok, put_so, so_put}
use Rattle.row_out.proofs.Laws.{length_out, out_ok, size_held, size_not}
use Rattle.row_out.proofs.frame_of.Goals as goal

pub returns-in_err-n : goal.returns-in_err-n
returns-in_err-n c =
    rw (exit_answer _ _ c.from_residual.ensures) (written_no _ (size_not _ _ _ c.frame_size.ensures _ _ c.in_err-n.was (omega arith)))

pub returns-then-buf-n : goal.returns-then-buf-n
unfolding answer_of
returns-then-buf-n c =
    let a = c.args in
    let h = size_held _ _ _ c.frame_size.ensures _ c.in_ok-n.was in
    written_short _ (out_ok _ _ _ h) (omega (arith, length_out a.vals.now a.bytes.now))

pub put_each-at-requires : goal.put_each-at-requires
put_each-at-requires c =
    let h = size_held _ _ _ c.frame_size.ensures _ c.in_ok-n.was in
    (h.small, omega arith)

pub returns : goal.returns
unfolding answer_of
returns c =
    let a = c.args in
    let h = size_held _ _ _ c.frame_size.ensures _ c.in_ok-n.was in
    let p = put_so _ _ _ (omega arith) c.put_each-at.ensures in
    written_ok _ (out_ok _ _ _ h) (omega (arith, length_out a.vals.now a.bytes.now)) (so_put p (omega arith) c.put_slice.ensures)
