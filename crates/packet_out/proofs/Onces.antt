-- Only one answer, and only one content of a lent buffer, meets the contract of each public function.
use mathlib.Core.Path.{◌∙◌, sym}
use mathlib.Core.List.{List}
use Prim.Native.Nat.{ℕ}
use Rattle.coding.specs.Once.{Once}
use Rattle.std.specs.Prelude.{Result}
use Rattle.coding.specs.declared.refusal.Refusal.{Refusal}
use Rattle.coding.proofs.Inverse.{answer_one}
use Rattle.packet.proofs.Inverse.{option_one}
use Rattle.packet_out.specs.declared.PartialEncode.{PartialEncode}
use Rattle.packet_out.proofs.Inverse.{encoded_one}
use Rattle.packet_out.specs.contracts.header.Header.number as number
use Rattle.packet_out.proofs.header.Header.number.Reads as number_reads
use Rattle.packet_out.specs.contracts.encode as encode
use Rattle.packet_out.proofs.encode.Reads as encode_reads
use Rattle.packet_out.specs.contracts.encode_for as encode_for
use Rattle.packet_out.proofs.encode_for.Reads as encode_for_reads
use Rattle.packet_out.specs.contracts.set_length as set_length
use Rattle.packet_out.proofs.set_length.Reads as set_length_reads

number_once : Once number.ended number_reads.Post (λ κs x s. x)
unfolding Once
number_once κs a x y s t p q = option_one x y _ p q

encode_once : Once {B = Result PartialEncode Refusal × List ℕ} encode.ended encode_reads.Post (λ κs x s. (x, s.1.1.1.1.0.now))
unfolding Once
encode_once κs a x y s t p q i = (encoded_one x y _ p.says q.says i, (p.leaves ∙ sym q.leaves) i)

encode_for_once : Once {B = Result PartialEncode Refusal × List ℕ} encode_for.ended encode_for_reads.Post (λ κs x s. (x, s.1.1.1.1.1.0.now))
unfolding Once
encode_for_once κs a x y s t p q i = (encoded_one x y _ p.says q.says i, (p.leaves ∙ sym q.leaves) i)

set_length_once : Once {B = Result Unit Refusal × List ℕ} set_length.ended set_length_reads.Post (λ κs x s. (x, s.1.1.1.0.now))
unfolding Once
set_length_once κs a x y s t p q i = (answer_one x y _ p.says q.says i, (p.leaves ∙ sym q.leaves) i)
