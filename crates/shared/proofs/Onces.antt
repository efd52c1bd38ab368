-- Only one answer, and only one content of a lent buffer, meets the contract of each public function.
use mathlib.Core.Path.{◌∙◌, sym}
use mathlib.Core.List.{List}
use Prim.Native.Nat.{ℕ}
use Rattle.coding.specs.Once.{Once}
use Rattle.std.proofs.Common.{Result}
use Rattle.coding.specs.declared.Place.{Place}
use Rattle.coding.specs.declared.reader.Reader.{Reader}
use Rattle.coding.specs.declared.refusal.Refusal.{Refusal}
use Rattle.coding.specs.declared.refusal.UnexpectedEnd.{UnexpectedEnd}
use Rattle.coding.proofs.Inverse.{reads_one}
use Rattle.shared.specs.declared.cid.ConnectionId.{ConnectionId}
use Rattle.coding.proofs.Onces.{one_put, one_written}
use Rattle.shared.proofs.Inverse.{cid_made_one, reads_cid_one, ecn_one, side_one, dir_one, stream_one}
use Rattle.shared.specs.contracts.cid.long_place as long_place
use Rattle.shared.proofs.cid.long_place.Reads as long_place_reads
use Rattle.shared.specs.contracts.cid.ConnectionId.empty as empty
use Rattle.shared.proofs.cid.ConnectionId.empty.Reads as empty_reads
use Rattle.shared.specs.contracts.cid.ConnectionId.at as at
use Rattle.shared.proofs.cid.ConnectionId.at.Reads as at_reads
use Rattle.shared.specs.contracts.cid.ConnectionId.new as cid_new
use Rattle.shared.proofs.cid.ConnectionId.new.Reads as cid_new_reads
use Rattle.shared.specs.contracts.cid.ConnectionId.from_buf as from_buf
use Rattle.shared.proofs.cid.ConnectionId.from_buf.Reads as from_buf_reads
use Rattle.shared.specs.contracts.cid.ConnectionId.decode_long as decode_long
use Rattle.shared.proofs.cid.ConnectionId.decode_long.Reads as decode_long_reads
use Rattle.shared.specs.contracts.cid.ConnectionId.put_bytes as put_bytes
use Rattle.shared.proofs.cid.ConnectionId.put_bytes.Reads as put_bytes_reads
use Rattle.shared.specs.contracts.cid.ConnectionId.put_long as put_long
use Rattle.shared.proofs.cid.ConnectionId.put_long.Reads as put_long_reads
use Rattle.shared.specs.contracts.cid.ConnectionId.encode_long as encode_long
use Rattle.shared.proofs.cid.ConnectionId.encode_long.Reads as encode_long_reads
use Rattle.shared.specs.contracts.codepoint.EcnCodepoint.from_bits as from_bits
use Rattle.shared.proofs.codepoint.EcnCodepoint.from_bits.Reads as from_bits_reads
use Rattle.shared.specs.contracts.codepoint.EcnCodepoint.is_ce as is_ce
use Rattle.shared.proofs.codepoint.EcnCodepoint.is_ce.Reads as is_ce_reads
use Rattle.shared.specs.contracts.kinds.Side.is_client as is_client
use Rattle.shared.proofs.kinds.Side.is_client.Reads as is_client_reads
use Rattle.shared.specs.contracts.kinds.Side.is_server as is_server
use Rattle.shared.proofs.kinds.Side.is_server.Reads as is_server_reads
use Rattle.shared.specs.contracts.kinds.SideNot.not as not
use Rattle.shared.proofs.kinds.SideNot.not.Reads as not_reads
use Rattle.shared.specs.contracts.kinds.U64FromSide.from as side_from
use Rattle.shared.proofs.kinds.U64FromSide.from.Reads as side_from_reads
use Rattle.shared.specs.contracts.kinds.U64FromDir.from as dir_from
use Rattle.shared.proofs.kinds.U64FromDir.from.Reads as dir_from_reads
use Rattle.shared.specs.contracts.kinds.StreamId.new as stream_new
use Rattle.shared.proofs.kinds.StreamId.new.Reads as stream_new_reads
use Rattle.shared.specs.contracts.kinds.StreamId.initiator as initiator
use Rattle.shared.proofs.kinds.StreamId.initiator.Reads as initiator_reads
use Rattle.shared.specs.contracts.kinds.StreamId.dir as dir
use Rattle.shared.proofs.kinds.StreamId.dir.Reads as dir_reads
use Rattle.shared.specs.contracts.kinds.StreamId.index as index
use Rattle.shared.proofs.kinds.StreamId.index.Reads as index_reads

-- ---- connection ids

long_place_once : Once {B = Result Place UnexpectedEnd × Reader} long_place.ended long_place_reads.Post (λ κs x s. (x, s.0.now))
unfolding Once
long_place_once κs a x y s t p q = reads_one (λ p. p) (λ v w e. e) _ _ _ _ x y p q

empty_once : Once empty.ended empty_reads.Post (λ κs x s. x)
unfolding Once
empty_once κs a x y s t p q = p ∙ sym q

at_once : Once at.ended at_reads.Post (λ κs x s. x)
unfolding Once
at_once κs a x y s t p q = p ∙ sym q

cid_new_once : Once cid_new.ended cid_new_reads.Post (λ κs x s. x)
unfolding Once
cid_new_once κs a x y s t p q = cid_made_one x y _ p q

from_buf_once : Once {B = Result ConnectionId Refusal × Reader} from_buf.ended from_buf_reads.Post (λ κs x s. (x, s.0.now))
unfolding Once
from_buf_once κs a x y s t p q = reads_cid_one _ _ _ _ x y p q

decode_long_once : Once {B = Result ConnectionId Refusal × Reader} decode_long.ended decode_long_reads.Post (λ κs x s. (x, s.0.now))
unfolding Once
decode_long_once κs a x y s t p q = reads_cid_one _ _ _ _ x y p q

put_bytes_once : Once {B = ℕ × List ℕ} put_bytes.ended put_bytes_reads.Post (λ κs x s. (x, s.1.0.now))
unfolding Once
put_bytes_once κs a x y s t p q = one_put _ _ _ x y _ _ p q

put_long_once : Once {B = ℕ × List ℕ} put_long.ended put_long_reads.Post (λ κs x s. (x, s.1.0.now))
unfolding Once
put_long_once κs a x y s t p q = one_put _ _ _ x y _ _ p q

encode_long_once : Once {B = Result ℕ Refusal × List ℕ} encode_long.ended encode_long_reads.Post (λ κs x s. (x, s.1.0.now))
unfolding Once
encode_long_once κs a x y s t p q = one_written _ _ x y _ _ p q

-- ---- ECN codepoints

from_bits_once : Once from_bits.ended from_bits_reads.Post (λ κs x s. x)
unfolding Once
from_bits_once κs a x y s t p q = ecn_one x y _ p q

is_ce_once : Once is_ce.ended is_ce_reads.Post (λ κs x s. x)
unfolding Once
is_ce_once κs a x y s t p q = p ∙ sym q

-- ---- sides and stream ids

is_client_once : Once is_client.ended is_client_reads.Post (λ κs x s. x)
unfolding Once
is_client_once κs a x y s t p q = p ∙ sym q

is_server_once : Once is_server.ended is_server_reads.Post (λ κs x s. x)
unfolding Once
is_server_once κs a x y s t p q = p ∙ sym q

not_once : Once not.ended not_reads.Post (λ κs x s. x)
unfolding Once
not_once κs a x y s t p q = side_one x y _ p q

side_from_once : Once side_from.ended side_from_reads.Post (λ κs x s. x)
unfolding Once
side_from_once κs a x y s t p q = p.0 ∙ sym q.0

dir_from_once : Once dir_from.ended dir_from_reads.Post (λ κs x s. x)
unfolding Once
dir_from_once κs a x y s t p q = p.0 ∙ sym q.0

stream_new_once : Once stream_new.ended stream_new_reads.Post (λ κs x s. x)
unfolding Once
stream_new_once κs a x y s t p q = stream_one x y _ p q

initiator_once : Once initiator.ended initiator_reads.Post (λ κs x s. x)
unfolding Once
initiator_once κs a x y s t p q = side_one x y _ p q

dir_once : Once dir.ended dir_reads.Post (λ κs x s. x)
unfolding Once
dir_once κs a x y s t p q = dir_one x y _ p q

index_once : Once index.ended index_reads.Post (λ κs x s. x)
unfolding Once
index_once κs a x y s t p q = p ∙ sym q
