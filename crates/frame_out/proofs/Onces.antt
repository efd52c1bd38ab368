-- Only one answer, and only one content of a lent buffer, meets the contract of each public function.
use mathlib.Core.Path.{◌≡◌, ◌∙◌, sym}
use mathlib.Core.List.{List}
use Prim.Native.Nat.{ℕ}
use mir.Syntax.{Dict}
use denote.Builtin.{u64}
use denote.Param.Laws.{Laws}
use denote.RattleType.{RattleType}
use Rattle.frame_out.specs.declared.codec.Integer
use Rattle.frame_out.specs.contracts.codec.FrameTypeInteger.TheImpl as ty_integer
use Rattle.frame_out.specs.contracts.codec.FrameTypeInteger.TheImpl.Laws as ty_integer_laws
use Rattle.frame_out.specs.contracts.codec.StreamIdInteger.TheImpl as id_integer
use Rattle.frame_out.specs.contracts.codec.StreamIdInteger.TheImpl.Laws as id_integer_laws
use Rattle.frame_out.specs.contracts.codec.U64Integer.TheImpl as code_integer
use Rattle.frame_out.specs.contracts.codec.U64Integer.TheImpl.Laws as code_integer_laws
use Rattle.coding.specs.Once.{Once}
use Rattle.std.specs.Prelude.{Result}
use Rattle.coding.specs.declared.reader.Reader.{Reader}
use Rattle.coding.specs.declared.refusal.Refusal.{Refusal}
use Rattle.coding.specs.declared.refusal.UnexpectedEnd.{UnexpectedEnd}
use Rattle.coding.proofs.Inverse.{reads_one, answer_one}
use Rattle.coding.proofs.Onces.{one_written, u64_laws}
use Rattle.shared.specs.declared.kinds.FrameType.{FrameType}
use Rattle.shared.specs.declared.kinds.StreamId.{StreamId}
use Rattle.shared.specs.contracts.kinds.FrameType.{the_row as type_row}
use Rattle.shared.proofs.kinds.FrameType.TheLaws.{the_row_laws as type_laws}
use Rattle.shared.specs.contracts.kinds.StreamId.{the_row as id_row}
use Rattle.shared.proofs.kinds.StreamId.TheLaws.{the_row_laws as id_laws}
use Rattle.frame_out.specs.contracts.codec.encode as encode
use Rattle.frame_out.proofs.codec.encode.Reads as encode_reads
use Rattle.frame_out.specs.contracts.codec.decode as decode
use Rattle.frame_out.proofs.codec.decode.Reads as decode_reads
use Rattle.frame_out.specs.contracts.closes.CloseKind.is_transport_layer as is_transport_layer
use Rattle.frame_out.proofs.closes.CloseKind.is_transport_layer.Reads as is_transport_layer_reads
use Rattle.frame_out.specs.contracts.closes.connection_close as connection_close
use Rattle.frame_out.proofs.closes.connection_close.Reads as connection_close_reads
use Rattle.frame_out.specs.contracts.closes.application_close as application_close
use Rattle.frame_out.proofs.closes.application_close.Reads as application_close_reads
use Rattle.frame_out.specs.contracts.closes.close as close
use Rattle.frame_out.proofs.closes.close.Reads as close_reads
use Rattle.frame_out.specs.contracts.ecn_counts as ecn_counts
use Rattle.frame_out.proofs.ecn_counts.Reads as ecn_counts_reads
use Rattle.frame_out.specs.contracts.stream_meta as stream_meta
use Rattle.frame_out.proofs.stream_meta.Reads as stream_meta_reads
use Rattle.frame_out.specs.contracts.crypto as crypto
use Rattle.frame_out.proofs.crypto.Reads as crypto_reads
use Rattle.frame_out.specs.contracts.new_token as new_token
use Rattle.frame_out.proofs.new_token.Reads as new_token_reads
use Rattle.frame_out.specs.contracts.new_token_size as new_token_size
use Rattle.frame_out.proofs.new_token_size.Reads as new_token_size_reads
use Rattle.frame_out.specs.contracts.reset_stream as reset_stream
use Rattle.frame_out.proofs.reset_stream.Reads as reset_stream_reads
use Rattle.frame_out.specs.contracts.stop_sending as stop_sending
use Rattle.frame_out.proofs.stop_sending.Reads as stop_sending_reads
use Rattle.frame_out.specs.contracts.new_connection_id as new_connection_id
use Rattle.frame_out.proofs.new_connection_id.Reads as new_connection_id_reads
use Rattle.frame_out.specs.contracts.datagram as datagram
use Rattle.frame_out.proofs.datagram.Reads as datagram_reads
use Rattle.frame_out.specs.contracts.datagram_size as datagram_size
use Rattle.frame_out.proofs.datagram_size.Reads as datagram_size_reads
use Rattle.frame_out.specs.contracts.size_bounds as size_bounds
use Rattle.frame_out.proofs.size_bounds.Reads as size_bounds_reads
use Rattle.frame_out.specs.contracts.ack_frequency as ack_frequency
use Rattle.frame_out.proofs.ack_frequency.Reads as ack_frequency_reads

-- of any type whose numbers tell its values: the law `one` of Integer
module _ (T : RattleType) (laws : Laws T) (g : Integer.Ghosts T.Denot) (d : Dict) (one : (x y : T.Denot) → g.number x ≡ g.number y → x ≡ y) where
  encode_once : Once {B = Result ℕ Refusal × List ℕ} (encode.ended T g d) (encode_reads.Post T laws g d) (λ κs x s. (x, s.1.0.now))
  unfolding Once
  encode_once κs a x y s t p q = one_written _ _ x y _ _ p q

  decode_once : Once {B = Result T.Denot UnexpectedEnd × Reader} (decode.ended T g d) (decode_reads.Post T laws g d) (λ κs x s. (x, s.0.now))
  unfolding Once
  decode_once κs a x y s t p q = reads_one g.number one _ _ _ _ x y p q

-- at the three types, where each impl proves that law
encode_type_once : Once {B = Result ℕ Refusal × List ℕ} (encode.ended type_row ty_integer.ghosts ty_integer.dict) (encode_reads.Post type_row type_laws ty_integer.ghosts ty_integer.dict) (λ κs x s. (x, s.1.0.now))
encode_type_once = encode_once type_row type_laws ty_integer.ghosts ty_integer.dict ty_integer_laws.one-law

encode_stream_id_once : Once {B = Result ℕ Refusal × List ℕ} (encode.ended id_row id_integer.ghosts id_integer.dict) (encode_reads.Post id_row id_laws id_integer.ghosts id_integer.dict) (λ κs x s. (x, s.1.0.now))
encode_stream_id_once = encode_once id_row id_laws id_integer.ghosts id_integer.dict id_integer_laws.one-law

encode_error_code_once : Once {B = Result ℕ Refusal × List ℕ} (encode.ended u64 code_integer.ghosts code_integer.dict) (encode_reads.Post u64 u64_laws code_integer.ghosts code_integer.dict) (λ κs x s. (x, s.1.0.now))
encode_error_code_once = encode_once u64 u64_laws code_integer.ghosts code_integer.dict code_integer_laws.one-law

decode_type_once : Once {B = Result FrameType UnexpectedEnd × Reader} (decode.ended type_row ty_integer.ghosts ty_integer.dict) (decode_reads.Post type_row type_laws ty_integer.ghosts ty_integer.dict) (λ κs x s. (x, s.0.now))
decode_type_once = decode_once type_row type_laws ty_integer.ghosts ty_integer.dict ty_integer_laws.one-law

decode_stream_id_once : Once {B = Result StreamId UnexpectedEnd × Reader} (decode.ended id_row id_integer.ghosts id_integer.dict) (decode_reads.Post id_row id_laws id_integer.ghosts id_integer.dict) (λ κs x s. (x, s.0.now))
decode_stream_id_once = decode_once id_row id_laws id_integer.ghosts id_integer.dict id_integer_laws.one-law

decode_error_code_once : Once {B = Result ℕ UnexpectedEnd × Reader} (decode.ended u64 code_integer.ghosts code_integer.dict) (decode_reads.Post u64 u64_laws code_integer.ghosts code_integer.dict) (λ κs x s. (x, s.0.now))
decode_error_code_once = decode_once u64 u64_laws code_integer.ghosts code_integer.dict code_integer_laws.one-law

is_transport_layer_once : Once is_transport_layer.ended is_transport_layer_reads.Post (λ κs x s. x)
unfolding Once
is_transport_layer_once κs a x y s t p q = p ∙ sym q

connection_close_once : Once {B = Result ℕ Refusal × List ℕ} connection_close.ended connection_close_reads.Post (λ κs x s. (x, s.1.1.1.1.0.now))
unfolding Once
connection_close_once κs a x y s t p q = one_written _ _ x y _ _ p q

application_close_once : Once {B = Result ℕ Refusal × List ℕ} application_close.ended application_close_reads.Post (λ κs x s. (x, s.1.1.1.0.now))
unfolding Once
application_close_once κs a x y s t p q = one_written _ _ x y _ _ p q

close_once : Once {B = Result ℕ Refusal × List ℕ} close.ended close_reads.Post (λ κs x s. (x, s.1.1.1.0.now))
unfolding Once
close_once κs a x y s t p q = one_written _ _ x y _ _ p q

ecn_counts_once : Once {B = Result ℕ Refusal × List ℕ} ecn_counts.ended ecn_counts_reads.Post (λ κs x s. (x, s.1.0.now))
unfolding Once
ecn_counts_once κs a x y s t p q = one_written _ _ x y _ _ p q

stream_meta_once : Once {B = Result ℕ Refusal × List ℕ} stream_meta.ended stream_meta_reads.Post (λ κs x s. (x, s.1.1.0.now))
unfolding Once
stream_meta_once κs a x y s t p q = one_written _ _ x y _ _ p q

crypto_once : Once {B = Result ℕ Refusal × List ℕ} crypto.ended crypto_reads.Post (λ κs x s. (x, s.1.1.0.now))
unfolding Once
crypto_once κs a x y s t p q = one_written _ _ x y _ _ p q

new_token_once : Once {B = Result ℕ Refusal × List ℕ} new_token.ended new_token_reads.Post (λ κs x s. (x, s.1.0.now))
unfolding Once
new_token_once κs a x y s t p q = one_written _ _ x y _ _ p q

new_token_size_once : Once new_token_size.ended new_token_size_reads.Post (λ κs x s. x)
unfolding Once
new_token_size_once κs a x y s t p q = answer_one x y _ p q

reset_stream_once : Once {B = Result ℕ Refusal × List ℕ} reset_stream.ended reset_stream_reads.Post (λ κs x s. (x, s.1.0.now))
unfolding Once
reset_stream_once κs a x y s t p q = one_written _ _ x y _ _ p q

stop_sending_once : Once {B = Result ℕ Refusal × List ℕ} stop_sending.ended stop_sending_reads.Post (λ κs x s. (x, s.1.0.now))
unfolding Once
stop_sending_once κs a x y s t p q = one_written _ _ x y _ _ p q

new_connection_id_once : Once {B = Result ℕ Refusal × List ℕ} new_connection_id.ended new_connection_id_reads.Post (λ κs x s. (x, s.1.1.1.1.0.now))
unfolding Once
new_connection_id_once κs a x y s t p q = one_written _ _ x y _ _ p q

datagram_once : Once {B = Result ℕ Refusal × List ℕ} datagram.ended datagram_reads.Post (λ κs x s. (x, s.1.1.0.now))
unfolding Once
datagram_once κs a x y s t p q = one_written _ _ x y _ _ p q

datagram_size_once : Once datagram_size.ended datagram_size_reads.Post (λ κs x s. x)
unfolding Once
datagram_size_once κs a x y s t p q = answer_one x y _ p q

ack_frequency_once : Once {B = Result ℕ Refusal × List ℕ} ack_frequency.ended ack_frequency_reads.Post (λ κs x s. (x, s.1.0.now))
unfolding Once
ack_frequency_once κs a x y s t p q = one_written _ _ x y _ _ p q

size_bounds_once : Once size_bounds.ended size_bounds_reads.Post (λ κs x s. x)
unfolding Once
size_bounds_once κs a x y s t p q = p ∙ sym q
