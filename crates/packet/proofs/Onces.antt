-- Only one answer meets the contract of each public function.
use mathlib.Core.Path.{◌≡◌, ◌∙◌, sym, ap}
use Prim.Native.Nat.{ℕ}
use Rattle.coding.specs.Once.{Once}
use Rattle.coding.specs.Refusals.{number_of}
use Rattle.coding.proofs.Onces.{seen, one_part}
use Rattle.coding.proofs.Numbers.{refusal_of, refusal_back}
use Rattle.packet.proofs.Unlisted.{header_named, split_named, step_named}
use Rattle.packet.proofs.Inverse.{kind_one, option_one, space_one, outcome_one, split_one, step_one}
use Rattle.packet.specs.contracts.error.PacketDecodeErrorFromUnexpectedEnd.from as end_from
use Rattle.packet.proofs.error.PacketDecodeErrorFromUnexpectedEnd.from.Reads as end_from_reads
use Rattle.packet.specs.contracts.error.PacketDecodeError.refusal as refusal
use Rattle.packet.proofs.error.PacketDecodeError.refusal.Reads as refusal_reads
use Rattle.packet.specs.contracts.error.PacketDecodeError.dst_cid as refused_dst
use Rattle.packet.proofs.error.PacketDecodeError.dst_cid.Reads as refused_dst_reads
use Rattle.packet.specs.contracts.error.PacketDecodeError.src_cid as refused_src
use Rattle.packet.proofs.error.PacketDecodeError.src_cid.Reads as refused_src_reads
use Rattle.packet.specs.contracts.error.PacketDecodeError.version as refused_version
use Rattle.packet.proofs.error.PacketDecodeError.version.Reads as refused_version_reads
use Rattle.packet.specs.contracts.error.PacketDecodeError.payload_len as refused_payload_len
use Rattle.packet.proofs.error.PacketDecodeError.payload_len.Reads as refused_payload_len_reads
use Rattle.packet.specs.contracts.error.PacketDecodeError.space as refused_space
use Rattle.packet.proofs.error.PacketDecodeError.space.Reads as refused_space_reads
use Rattle.packet.specs.contracts.error.PacketDecodeError.is_initial as refused_is_initial
use Rattle.packet.proofs.error.PacketDecodeError.is_initial.Reads as refused_is_initial_reads
use Rattle.packet.specs.contracts.error.PacketDecodeError.is_0rtt as refused_is_0rtt
use Rattle.packet.proofs.error.PacketDecodeError.is_0rtt.Reads as refused_is_0rtt_reads
use Rattle.packet.specs.contracts.error.PacketDecodeError.has_long_header as refused_has_long_header
use Rattle.packet.proofs.error.PacketDecodeError.has_long_header.Reads as refused_has_long_header_reads
use Rattle.packet.specs.contracts.error.PacketDecodeError.number_offset as refused_number_offset
use Rattle.packet.proofs.error.PacketDecodeError.number_offset.Reads as refused_number_offset_reads
use Rattle.packet.specs.contracts.header.LongHeaderType.from_byte as from_byte
use Rattle.packet.proofs.header.LongHeaderType.from_byte.Reads as from_byte_reads
use Rattle.packet.specs.contracts.header.LongHeaderType.bits as bits
use Rattle.packet.proofs.header.LongHeaderType.bits.Reads as bits_reads
use Rattle.packet.specs.contracts.header.Decoded.dst_cid as dst_cid
use Rattle.packet.proofs.header.Decoded.dst_cid.Reads as dst_cid_reads
use Rattle.packet.specs.contracts.header.Decoded.payload_len as payload_len
use Rattle.packet.proofs.header.Decoded.payload_len.Reads as payload_len_reads
use Rattle.packet.specs.contracts.header.Decoded.space as space
use Rattle.packet.proofs.header.Decoded.space.Reads as space_reads
use Rattle.packet.specs.contracts.header.Decoded.is_initial as is_initial
use Rattle.packet.proofs.header.Decoded.is_initial.Reads as is_initial_reads
use Rattle.packet.specs.contracts.header.Decoded.is_0rtt as is_0rtt
use Rattle.packet.proofs.header.Decoded.is_0rtt.Reads as is_0rtt_reads
use Rattle.packet.specs.contracts.header.Decoded.has_long_header as has_long_header
use Rattle.packet.proofs.header.Decoded.has_long_header.Reads as has_long_header_reads
use Rattle.packet.specs.contracts.protected.decode as decode
use Rattle.packet.proofs.protected.decode.Reads as decode_reads
use Rattle.packet.specs.contracts.partial.split as split
use Rattle.packet.proofs.partial.split.Reads as split_reads
use Rattle.packet.specs.contracts.partial.PartialDecode.len as len
use Rattle.packet.proofs.partial.PartialDecode.len.Reads as len_reads
use Rattle.packet.specs.contracts.partial.PartialDecode.«data» as data_part
use Rattle.packet.proofs.partial.PartialDecode.«data».Reads as data_reads
use Rattle.packet.specs.contracts.partial.PartialDecode.rest as rest
use Rattle.packet.proofs.partial.PartialDecode.rest.Reads as rest_reads
use Rattle.packet.specs.contracts.partial.PartialDecode.token as token
use Rattle.packet.proofs.partial.PartialDecode.token.Reads as token_reads
use Rattle.packet.specs.contracts.walk.step as step
use Rattle.packet.proofs.walk.step.Reads as step_reads

refusal_once : Once refusal.ended refusal_reads.Post (λ κs x s. x)
unfolding Once
refusal_once κs a x y s t p q =
    let e = p ∙ sym q in
    let n : ◌≡◌ {A = ℕ} (number_of x) (number_of y) = cc in
    sym (refusal_back x) ∙ ap refusal_of n ∙ refusal_back y

refused_dst_once : Once refused_dst.ended refused_dst_reads.Post (λ κs x s. x)
unfolding Once
refused_dst_once κs a x y s t p q = p ∙ sym q

refused_src_once : Once refused_src.ended refused_src_reads.Post (λ κs x s. x)
unfolding Once
refused_src_once κs a x y s t p q = p ∙ sym q

refused_version_once : Once refused_version.ended refused_version_reads.Post (λ κs x s. x)
unfolding Once
refused_version_once κs a x y s t p q = p ∙ sym q

refused_payload_len_once : Once refused_payload_len.ended refused_payload_len_reads.Post (λ κs x s. x)
unfolding Once
refused_payload_len_once κs a x y s t p q = option_one x y _ p q

refused_space_once : Once refused_space.ended refused_space_reads.Post (λ κs x s. x)
unfolding Once
refused_space_once κs a x y s t p q = space_one x y _ p q

refused_is_initial_once : Once refused_is_initial.ended refused_is_initial_reads.Post (λ κs x s. x)
unfolding Once
refused_is_initial_once κs a x y s t p q = p ∙ sym q

refused_is_0rtt_once : Once refused_is_0rtt.ended refused_is_0rtt_reads.Post (λ κs x s. x)
unfolding Once
refused_is_0rtt_once κs a x y s t p q = p ∙ sym q

refused_has_long_header_once : Once refused_has_long_header.ended refused_has_long_header_reads.Post (λ κs x s. x)
unfolding Once
refused_has_long_header_once κs a x y s t p q = p ∙ sym q

refused_number_offset_once : Once refused_number_offset.ended refused_number_offset_reads.Post (λ κs x s. x)
unfolding Once
refused_number_offset_once κs a x y s t p q = p ∙ sym q

from_byte_once : Once from_byte.ended from_byte_reads.Post (λ κs x s. x)
unfolding Once
from_byte_once κs a x y s t p q = kind_one x y _ p q

bits_once : Once bits.ended bits_reads.Post (λ κs x s. x)
unfolding Once
bits_once κs a x y s t p q = p.0 ∙ sym q.0

dst_cid_once : Once dst_cid.ended dst_cid_reads.Post (λ κs x s. x)
unfolding Once
dst_cid_once κs a x y s t p q = p ∙ sym q

payload_len_once : Once payload_len.ended payload_len_reads.Post (λ κs x s. x)
unfolding Once
payload_len_once κs a x y s t p q = option_one x y _ p q

space_once : Once space.ended space_reads.Post (λ κs x s. x)
unfolding Once
space_once κs a x y s t p q = space_one x y _ p q

is_initial_once : Once is_initial.ended is_initial_reads.Post (λ κs x s. x)
unfolding Once
is_initial_once κs a x y s t p q = p ∙ sym q

is_0rtt_once : Once is_0rtt.ended is_0rtt_reads.Post (λ κs x s. x)
unfolding Once
is_0rtt_once κs a x y s t p q = p ∙ sym q

has_long_header_once : Once has_long_header.ended has_long_header_reads.Post (λ κs x s. x)
unfolding Once
has_long_header_once κs a x y s t p q = p ∙ sym q

decode_once : Once decode.ended decode_reads.Post (λ κs x s. x)
unfolding Once
decode_once κs a x y s t p q = outcome_one x y _ (header_named _ _ _ _) p q

split_once : Once split.ended split_reads.Post (λ κs x s. x)
unfolding Once
split_once κs a x y s t p q = split_one x y _ (split_named _ _ _ _) p q

len_once : Once len.ended len_reads.Post (λ κs x s. x)
unfolding Once
len_once κs a x y s t p q = p ∙ sym q

data_once : Once data_part.ended data_reads.Post (λ κs x s. seen x)
unfolding Once
data_once κs a x y s t p q = one_part _ x y _ _ p q

rest_once : Once rest.ended rest_reads.Post (λ κs x s. seen x)
unfolding Once
rest_once κs a x y s t p q = one_part _ x y _ _ p q

token_once : Once token.ended token_reads.Post (λ κs x s. seen x)
unfolding Once
token_once κs a x y s t p q = one_part _ x y _ _ p q

step_once : Once step.ended step_reads.Post (λ κs x s. x)
unfolding Once
step_once κs a x y s t p q = step_one x y _ (step_named _ _ _ _ _) p q

end_from_once : Once end_from.ended end_from_reads.Post (λ κs x s. x)
unfolding Once
end_from_once κs a x y s t p q = p ∙ sym q
