use native.Mathlib.Omega.{arith}
use Prim.Native.Nat.{◌+◌, ◌-◌}
use mathlib.Core.Path.{refl, sym, ap, ◌∙◌}
use lib.ListN.{length}
use Rattle.coding.specs.Words.{ok}
use Rattle.coding.proofs.Laws.{length_bytes_be}
use Rattle.coding.proofs.Writes.{put_so}
use Rattle.protect.proofs.Cases.{changed_no, changed_ok}
use Rattle.packet_out.specs.Length.{length_field}
use Rattle.coding.specs.Said.{answer_of}
use Rattle.packet_out.proofs.Laws.{into_long, into_ok}
use Rattle.packet_out.proofs.length_into.Goals as goal

pub returns-then-len-ge16384 : goal.returns-then-len-ge16384
unfolding answer_of
returns-then-len-ge16384 c =
    let a = c.args in
    changed_no _ _ (into_long _ _ _ (length a.packet.now - a.header_len + a.k) refl (omega arith))

pub returns : goal.returns
unfolding answer_of length_field
returns c =
    let s = put_so _ _ _ (simp length_bytes_be (omega arith)) c.put.ensures in
    changed_ok _ _ (into_ok _ c.args.k _ _ refl c.if-len-ge16384.false ∙ ap ok (sym s.bytes)) refl
