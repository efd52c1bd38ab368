use Rattle.std.proofs.Common.{◌≤◌, length, arith, sym}
use Rattle.coding.specs.Bytes.{bytes_be}
use Rattle.coding.specs.Said.{answer_of}
use Rattle.coding.proofs.Laws.{length_bytes_be}
use Rattle.coding.proofs.Writes.{written_no, written_short, written_ok, put_so}
use Rattle.number.proofs.Cuts.{put_in, out_in, out_out}
use Rattle.number.proofs.encode.Goals as goal

pub returns-then-not-is_cut : goal.returns-then-not-is_cut
unfolding answer_of
returns-then-not-is_cut c = written_no _ (out_out _ (sym c.if-not-is_cut.ensures))

pub returns-then-buf-c : goal.returns-then-buf-c
unfolding answer_of
returns-then-buf-c c = written_short _ (out_in _ (sym c.if-not-is_cut.ensures)) (simp length_bytes_be c.if-buf-c.true)

pub returns : goal.returns
unfolding answer_of
returns c =
    let i = sym c.if-not-is_cut.ensures in
    let a = c.args in
    let room : length (bytes_be a.c.0 a.c.1) ≤ length a.buf.now = simp length_bytes_be (omega arith) in
    written_ok _ (out_in _ i) room (put_so _ _ _ (omega arith) (rw (put_in _ i) at c.put.ensures))
