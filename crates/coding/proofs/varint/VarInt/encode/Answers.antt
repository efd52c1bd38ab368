use Rattle.std.proofs.lemmas.Result.{err_from_is_err_and}
use lib.ListN.{length}
use Prim.Native.Nat.{◌≤◌}
use Rattle.coding.specs.Varint.{var_bytes}
use native.Mathlib.Omega.{arith}
use Rattle.coding.proofs.Laws.{sized_bytes, sized_no, out_some, put_some, length_var}
use Rattle.coding.proofs.Writes.{written_no, written_short, written_ok, put_so}
use Rattle.coding.specs.Said.{answer_of}
use Rattle.coding.proofs.varint.VarInt.encode.Goals as goal

pub returns-in_err-n : goal.returns-in_err-n
unfolding answer_of
returns-in_err-n c = let p = err_from_is_err_and c.from_residual.result c.from_residual.ensures.1 in
    rw (p.1, p.2) (written_no _ (sized_no _ _ _ c.size.ensures c.in_err-n.was))

pub returns-then-buf-n : goal.returns-then-buf-n
unfolding answer_of
returns-then-buf-n c =
    let h = sized_bytes _ _ _ c.size.ensures c.in_ok-n.was in
    written_short _ (out_some _ h.0) (simp length_var (omega arith))

pub returns : goal.returns
unfolding answer_of
returns c =
    let h = sized_bytes _ _ _ c.size.ensures c.in_ok-n.was in
    let room : length (var_bytes c.args.self.0) ≤ length c.args.buf.now = simp length_var (omega arith) in
    written_ok _ (out_some _ h.0) room (put_so _ _ _ (omega arith) (rw (put_some _ h.0) at c.write_var.ensures))
