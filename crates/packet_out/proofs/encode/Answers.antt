use mathlib.Core.Path.{◌≡◌}
use native.Mathlib.Omega.{arith}
use lib.ListN.{length}
use borrow.Author.Rules.{rules}
use Rattle.coding.proofs.Writes.{written_no}
use Rattle.shared.specs.Cid.{cid_bytes}
use Rattle.packet_out.specs.Said.{plain_of, encoded_of}
use Rattle.packet_out.proofs.BeforePayload.{out_wide, out_wide_src, out_lent}
use Rattle.packet_out.proofs.Laws.{encodes_no}
use Rattle.packet_out.proofs.encode.Goals as goal
use Rattle.packet_out.proofs.encode.Goals.{then-to-gt-MAX_CID_SIZE-via-then-to-gt-MAX_CID_SIZE, then-to-gt-MAX_CID_SIZE-via-else-to-gt-MAX_CID_SIZE+then-from-gt-MAX_CID_SIZE}

pub returns-then-to-gt-MAX_CID_SIZE : goal.returns-then-to-gt-MAX_CID_SIZE
unfolding encoded_of
returns-then-to-gt-MAX_CID_SIZE c =
    encodes_no _ (written_no _
    (elim c.then-to-gt-MAX_CID_SIZE.branch [
      | then-to-gt-MAX_CID_SIZE-via-then-to-gt-MAX_CID_SIZE w ↦ out_wide _ _ _ _ (rw c.from-to.ensures at w.if-to-gt-MAX_CID_SIZE.true)
      | then-to-gt-MAX_CID_SIZE-via-else-to-gt-MAX_CID_SIZE+then-from-gt-MAX_CID_SIZE w ↦
          out_wide_src _ _ _ _ (rw c.from-to.ensures at w.if-to-gt-MAX_CID_SIZE.false) (rw c.from-from.ensures at w.if-from-gt-MAX_CID_SIZE.true)
    ]))

pub returns : goal.returns
unfolding cid_bytes
returns c =
    let a = c.args in
    let m : length a.dst_cid.bytes ≡ 20 = search rules in
    let n : length a.src_cid.bytes ≡ 20 = search rules in
    rw (← out_lent (plain_of a.header) a.dst_cid a.src_cid a.token.now (omega arith) (omega arith)) (rw (c.from-to.ensures, c.from-from.ensures) at c.encode_with.ensures)
