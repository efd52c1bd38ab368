-- Only one answer, and only one content of a lent packet or buffer, meets the contract of each public function.
use Rattle.std.specs.Prelude.{Result, Ok, Err}
use mathlib.Core.Path.{◌≡◌, ◌∙◌, refl, sym, ap}
use mathlib.Core.List.{List}
use mathlib.Core.Bool.{Bool}
use Prim.Native.Nat.{ℕ}
use native.Mathlib.Omega.{arith}
use Rattle.coding.specs.Once.{Once}
use Rattle.coding.specs.declared.refusal.Refusal.{Refusal}
use Rattle.number.proofs.Inverse.{space_one}
use Rattle.packet.specs.declared.header.LongType.TheVariants as ty
use Rattle.packet_out.specs.Encoding.{Plain, initial, zero_rtt, handshake, retry, short, negotiate}
use Rattle.packet_out.specs.Said.{plain_of}
use Rattle.packet_out.specs.declared.header.Header.{Header}
use Rattle.packet_out.specs.declared.header.Header.TheVariants as head
use Rattle.gateway.specs.Arguments.{Takes}
use Rattle.gateway.specs.declared.records.UnmaskAnswer.{UnmaskAnswer}
use Rattle.gateway.specs.declared.records.HeaderAnswer.{HeaderAnswer}
use Rattle.gateway.specs.contracts.guobbarel_split as guobbarel_split
use Rattle.gateway.proofs.guobbarel_split.Reads as guobbarel_split_reads
use Rattle.gateway.specs.contracts.guobbarel_sample_place as guobbarel_sample_place
use Rattle.gateway.proofs.guobbarel_sample_place.Reads as guobbarel_sample_place_reads
use Rattle.gateway.specs.contracts.guobbarel_unmask as guobbarel_unmask
use Rattle.gateway.proofs.guobbarel_unmask.Reads as guobbarel_unmask_reads
use Rattle.gateway.specs.contracts.guobbarel_frame_read as guobbarel_frame_read
use Rattle.gateway.proofs.guobbarel_frame_read.Reads as guobbarel_frame_read_reads
use Rattle.gateway.specs.contracts.guobbarel_number_step as guobbarel_number_step
use Rattle.gateway.proofs.guobbarel_number_step.Reads as guobbarel_number_step_reads
use Rattle.gateway.specs.contracts.guobbarel_header_write as guobbarel_header_write
use Rattle.gateway.proofs.guobbarel_header_write.Reads as guobbarel_header_write_reads
use Rattle.gateway.specs.contracts.guobbarel_mask as guobbarel_mask
use Rattle.gateway.proofs.guobbarel_mask.Reads as guobbarel_mask_reads
use Rattle.gateway.specs.contracts.headers.HeaderTryFromHeaderGiven.try_from as header_try_from
use Rattle.gateway.proofs.headers.HeaderTryFromHeaderGiven.try_from.Reads as header_try_from_reads
use Rattle.gateway.specs.contracts.headers.HeaderAnswerFromResultPartialEncodeRefusal.from as header_answer_from
use Rattle.gateway.proofs.headers.HeaderAnswerFromResultPartialEncodeRefusal.from.Reads as header_answer_from_reads
use Rattle.gateway.specs.contracts.numbers.SpaceFromNumberEnds.from as space_from
use Rattle.gateway.proofs.numbers.SpaceFromNumberEnds.from.Reads as space_from_reads
use Rattle.gateway.specs.contracts.numbers.NumberEndsFromSpace.from as ends_from
use Rattle.gateway.proofs.numbers.NumberEndsFromSpace.from.Reads as ends_from_reads
use Rattle.gateway.specs.contracts.packets.HeaderNumbersFromProtectedHeader.from as numbers_from
use Rattle.gateway.proofs.packets.HeaderNumbersFromProtectedHeader.from.Reads as numbers_from_reads
use Rattle.gateway.specs.contracts.packets.SampleAnswerFromResultOptionPlaceRefusal.from as sample_from
use Rattle.gateway.proofs.packets.SampleAnswerFromResultOptionPlaceRefusal.from.Reads as sample_from_reads

-- ---- the seven functions

guobbarel_split_once : Once guobbarel_split.ended guobbarel_split_reads.Post (λ κs x s. x)
unfolding Once
guobbarel_split_once κs a x y s t p q = p ∙ sym q

guobbarel_sample_place_once : Once guobbarel_sample_place.ended guobbarel_sample_place_reads.Post (λ κs x s. x)
unfolding Once
guobbarel_sample_place_once κs a x y s t p q = p ∙ sym q

guobbarel_unmask_once : Once {B = UnmaskAnswer × List ℕ} guobbarel_unmask.ended guobbarel_unmask_reads.Post (λ κs x s. (x, s.1.0.now))
unfolding Once
guobbarel_unmask_once κs a x y s t p q i = ((p.says ∙ sym q.says) i, (p.leaves ∙ sym q.leaves) i)

guobbarel_frame_read_once : Once guobbarel_frame_read.ended guobbarel_frame_read_reads.Post (λ κs x s. x)
unfolding Once
guobbarel_frame_read_once κs a x y s t p q = p ∙ sym q

guobbarel_number_step_once : Once guobbarel_number_step.ended guobbarel_number_step_reads.Post (λ κs x s. x)
unfolding Once
guobbarel_number_step_once κs a x y s t p q = p ∙ sym q

guobbarel_header_write_once : Once {B = HeaderAnswer × List ℕ} guobbarel_header_write.ended guobbarel_header_write_reads.Post (λ κs x s. (x, s.1.1.1.1.1.0.now))
unfolding Once
guobbarel_header_write_once κs a x y s t p q i = ((p.says ∙ sym q.says) i, (p.leaves ∙ sym q.leaves) i)

guobbarel_mask_once : Once {B = ℕ × List ℕ} guobbarel_mask.ended guobbarel_mask_reads.Post (λ κs x s. (x, s.1.1.1.0.now))
unfolding Once
guobbarel_mask_once κs a x y s t p q i = ((p.says ∙ sym q.says) i, (p.leaves ∙ sym q.leaves) i)

-- ---- the conversions

-- the header of what is written
abbrev header_in : Plain → Header
header_in (initial c v) = head.Initial c v
header_in (zero_rtt c v) = head.Long ty.ZeroRtt c v
header_in (handshake c v) = head.Long ty.Handshake c v
header_in (retry v) = head.Retry v
header_in (short spin phase c) = head.Short spin phase c
header_in (negotiate random) = head.VersionNegotiate random

header_in_back : (h : Header) → header_in (plain_of h) ≡ h
header_in_back (head.Initial c v) = refl
header_in_back (head.Long ty.ZeroRtt c v) = refl
header_in_back (head.Long ty.Handshake c v) = refl
header_in_back (head.Retry v) = refl
header_in_back (head.Short spin phase c) = refl
header_in_back (head.VersionNegotiate random) = refl

header_one : (p : Plain) (outside : Bool) (x y : Result Header Refusal) → Takes plain_of p outside x → Takes plain_of p outside y → x ≡ y
header_one p outside (Ok a) (Ok b) u v = ap Ok (sym (header_in_back a) ∙ ap header_in (sym u.1 ∙ v.1) ∙ header_in_back b)
header_one p outside (Err a) (Err b) u v = ap Err (u.1 ∙ sym v.1)
header_one p outside (Ok a) (Err b) u v = let z : ◌≡◌ {A = ℕ} 0 1 = cc in absurd (omega arith)
header_one p outside (Err a) (Ok b) u v = let z : ◌≡◌ {A = ℕ} 0 1 = cc in absurd (omega arith)

header_try_from_once : Once header_try_from.ended header_try_from_reads.Post (λ κs x s. x)
unfolding Once
header_try_from_once κs a x y s t p q = header_one _ _ x y p q

header_answer_from_once : Once header_answer_from.ended header_answer_from_reads.Post (λ κs x s. x)
unfolding Once
header_answer_from_once κs a x y s t p q = p ∙ sym q

space_from_once : Once space_from.ended space_from_reads.Post (λ κs x s. x)
unfolding Once
space_from_once κs a x y s t p q = space_one x y _ p q

ends_from_once : Once ends_from.ended ends_from_reads.Post (λ κs x s. x)
unfolding Once
ends_from_once κs a x y s t p q = p ∙ sym q

numbers_from_once : Once numbers_from.ended numbers_from_reads.Post (λ κs x s. x)
unfolding Once
numbers_from_once κs a x y s t p q = p ∙ sym q

sample_from_once : Once sample_from.ended sample_from_reads.Post (λ κs x s. x)
unfolding Once
sample_from_once κs a x y s t p q = p ∙ sym q
