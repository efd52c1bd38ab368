use Rattle.packet.specs.Said.{decoded_of}
use Rattle.dump_text.specs.Dump.{packet_line}
use Rattle.dump_text.proofs.Puts.{shorter, room_after, two}
use Rattle.dump_text.proofs.put_packet.Goals as goal

pub put_word-a-requires : goal.put_word-a-requires
unfolding packet_line decoded_of
put_word-a-requires c = shorter _ _ _ _ (shorter _ _ _ _ (shorter _ _ _ _ c.requires))

pub put_word-b-requires : goal.put_word-b-requires
unfolding packet_line decoded_of
put_word-b-requires c = room_after _ _ (shorter _ _ _ _ (shorter _ _ _ _ c.requires)) c.put_word-a.ensures

pub put_word-requires : goal.put_word-requires
unfolding packet_line decoded_of
put_word-requires c =
    let r = shorter _ _ _ _ c.requires in
    let k = rw c.kind_word.ensures at c.put_slice-c.ensures in
    room_after _ _ c.requires (two _ _ r (two _ _ (shorter _ _ _ _ r) c.put_word-a.ensures c.put_word-b.ensures) k)

pub returns : goal.returns
unfolding packet_line decoded_of
returns c =
    let r = shorter _ _ _ _ c.requires in
    let k = rw c.kind_word.ensures at c.put_slice-c.ensures in
    two _ _ c.requires (two _ _ r (two _ _ (shorter _ _ _ _ r) c.put_word-a.ensures c.put_word-b.ensures) k) c.put_word.ensures
