-- What is said settles the code's answer: each map to the paper's words has an inverse. It needs no condition of a header that was read,
-- nor of what is asked of it: `option_one`, `kind_one`, `space_one`, `decoded_one`, `partial_one`, `stepped_one`. Where a refusal can
-- stand, in `outcome_one`, `split_one` and `step_one`, the condition is `Named`: 4 with empty ids and version 0 is said by
-- `Refused(Version)`, and by an `UnsupportedVersion` that has these. No function answers it (Unlisted).
use mathlib.Core.Path.{◌≡◌, refl, sym, ap, ◌∙◌}
use mathlib.Core.Option.{Option, none, some}
use mathlib.Core.Bool.{cond}
use Prim.Native.Nat.{ℕ}
use lib.Dec.{eqb}
use borrow.Author.Tests.{ne_eqb}
use Rattle.std.specs.Prelude.{Result, Ok, Err, Some, None}
use Rattle.std.specs.Prelude.{Option as Maybe}
use Rattle.coding.specs.Words.{no}
use Rattle.coding.specs.Refusals.{number_of}
use Rattle.coding.specs.declared.refusal.Refusal.TheVariants as refusal
use Rattle.coding.proofs.Numbers.{refusal_of, refusal_back}
use Rattle.coding.proofs.Inverse.{one_by, answered}
use Rattle.packet.proofs.Unlisted.{Named}
use Rattle.packet.specs.TypeBits.{PacketType}
use Rattle.packet.specs.TypeBits as type
use Rattle.packet.specs.Header.{Header, initial, zero_rtt, handshake, retry, short, negotiate, Outcome}
use Rattle.packet.specs.Split.{Split, no_packet}
use Rattle.packet.specs.Walk.{Met, at_end, packet, refused_at, PacketStep}
use Rattle.packet.specs.Said.{option_of, long_type_of, header_of, space_of, decoded_of, error_of, outcome_of, partial_of, split_of, packet_step_of}
use Rattle.packet.specs.declared.error.PacketDecodeError.{PacketDecodeError}
use Rattle.packet.specs.declared.error.PacketDecodeError.TheVariants as error
use Rattle.packet.specs.declared.header.LongType.TheVariants as ty
use Rattle.packet.specs.declared.header.LongHeaderType.{LongHeaderType}
use Rattle.packet.specs.declared.header.LongHeaderType.TheVariants as kind
use Rattle.packet.specs.declared.header.ProtectedHeader.{ProtectedHeader}
use Rattle.packet.specs.declared.header.ProtectedHeader.TheVariants as head
use Rattle.packet.specs.declared.header.Decoded.{Decoded}
use Rattle.packet.specs.declared.header.SpaceId.{SpaceId}
use Rattle.packet.specs.declared.header.SpaceId.TheVariants as id
use Rattle.packet.specs.declared.partial.PartialDecode.{PartialDecode}
use Rattle.packet.specs.declared.walk.Stepped.{Stepped}
use Rattle.packet.specs.declared.walk.StepError.{StepError}

-- ---- what is asked of a header

abbrev option_back : {A : Type 0} → Option A → Maybe A
option_back none = None
option_back (some a) = Some a

option_back_law : {A : Type 0} (o : Maybe A) → option_back (option_of o) ≡ o
option_back_law None = refl
option_back_law (Some a) = refl

pub option_one : {A : Type 0} (x y : Maybe A) (o : Option A) → option_of x ≡ o → option_of y ≡ o → x ≡ y
option_one = one_by option_of option_back option_back_law

abbrev kind_back : PacketType → LongHeaderType
kind_back type.initial = kind.Initial
kind_back type.retry = kind.Retry
kind_back type.handshake = kind.Standard ty.Handshake
kind_back type.zero_rtt = kind.Standard ty.ZeroRtt

pub kind_one : (x y : LongHeaderType) (t : PacketType) → long_type_of x ≡ t → long_type_of y ≡ t → x ≡ y
kind_one = one_by long_type_of kind_back back
  where
    back : (k : LongHeaderType) → kind_back (long_type_of k) ≡ k
    back kind.Initial = refl
    back kind.Retry = refl
    back (kind.Standard ty.Handshake) = refl
    back (kind.Standard ty.ZeroRtt) = refl

abbrev space_back : Option ℕ → Maybe SpaceId
space_back none = None
space_back (some n) = Some (cond (eqb n 0) id.Initial (cond (eqb n 1) id.Handshake id.Data))

pub space_one : (x y : Maybe SpaceId) (o : Option ℕ) → space_of x ≡ o → space_of y ≡ o → x ≡ y
space_one = one_by space_of space_back back
  where
    back : (x : Maybe SpaceId) → space_back (space_of x) ≡ x
    back (Some id.Initial) = refl
    back (Some id.Handshake) = refl
    back (Some id.Data) = refl
    back None = refl

-- ---- headers

abbrev header_back : Header → ProtectedHeader
header_back (initial token len) = head.Initial token len
header_back (zero_rtt len) = head.Long ty.ZeroRtt len
header_back (handshake len) = head.Long ty.Handshake len
header_back retry = head.Retry
header_back (short spin) = head.Short spin
header_back (negotiate random) = head.VersionNegotiate random

header_back_law : (h : ProtectedHeader) → header_back (header_of h) ≡ h
header_back_law (head.Initial token len) = refl
header_back_law (head.Long ty.Handshake len) = refl
header_back_law (head.Long ty.ZeroRtt len) = refl
header_back_law head.Retry = refl
header_back_law (head.Short spin) = refl
header_back_law (head.VersionNegotiate random) = refl

abbrev decoded_back : Outcome → Decoded
decoded_back o = record { header = answered (λ k. head.Retry) header_back o.said; dst_cid = o.dst; src_cid = o.src; version = o.version; number_offset = o.end }

decoded_back_law : (d : Decoded) → decoded_back (decoded_of d) ≡ d
unfolding decoded_of
decoded_back_law d = rw (header_back_law d.header)

pub decoded_one : (x y : Decoded) (o : Outcome) → decoded_of x ≡ o → decoded_of y ≡ o → x ≡ y
decoded_one = one_by decoded_of decoded_back decoded_back_law

-- ---- refusals: 4 comes with a version that is not 0

abbrev error_back : Outcome → PacketDecodeError
error_back o =
    answered (λ k. cond (eqb k 4) (error.UnsupportedVersion o.dst o.src o.version) (error.Refused (refusal_of k))) (λ h. error.Refused refusal.Argument) o.said

not_four : (k : ℕ) (x y : PacketDecodeError) → (k ≡ 4 → ⊥) → cond (eqb k 4) x y ≡ y
not_four k x y h = rw (ne_eqb k 4 h)

error_back_law : (e : PacketDecodeError) → Named (error_of e) → error_back (error_of e) ≡ e
error_back_law (error.UnsupportedVersion dst src v) n = refl
error_back_law (error.Refused why) n = not_four (number_of why) _ _ (λ z. n (ap no z) refl) ∙ ap error.Refused (refusal_back why)

-- two that say the same are the same, where what is said has a way back
one_where : {A B : Type 0} (f : A → B) (g : B → A) (P : B → Type 0) → ((a : A) → P (f a) → g (f a) ≡ a) → (x y : A) (b : B) → P b → f x ≡ b → f y ≡ b → x ≡ y
one_where f g P back x y b h p q = sym (back x (rw p h)) ∙ ap g (p ∙ sym q) ∙ back y (rw q h)

abbrev outcome_back : Outcome → Result Decoded PacketDecodeError
outcome_back o = answered (λ k. Err (error_back o)) (λ h. Ok (decoded_back o)) o.said

pub outcome_one : (x y : Result Decoded PacketDecodeError) (o : Outcome) → Named o → outcome_of x ≡ o → outcome_of y ≡ o → x ≡ y
unfolding outcome_of decoded_of
outcome_one = one_where outcome_of outcome_back Named back
  where
    back : (r : Result Decoded PacketDecodeError) → Named (outcome_of r) → outcome_back (outcome_of r) ≡ r
    back (Ok d) n = ap Ok (decoded_back_law d)
    back (Err (error.UnsupportedVersion dst src v)) n = refl
    back (Err (error.Refused why)) n = ap Err (error_back_law (error.Refused why) n)

-- ---- splits and steps

abbrev partial_back : Split → PartialDecode
partial_back x = record { plain_header = decoded_back x.header; packet = x.packet; rest = option_back x.rest }

partial_back_law : (d : PartialDecode) → partial_back (partial_of d) ≡ d
unfolding partial_of
partial_back_law d = rw (decoded_back_law d.plain_header, option_back_law d.rest)

pub partial_one : (x y : PartialDecode) (o : Split) → partial_of x ≡ o → partial_of y ≡ o → x ≡ y
partial_one = one_by partial_of partial_back partial_back_law

abbrev split_back : Split → Result PartialDecode PacketDecodeError
split_back x = answered (λ k. Err (error_back x.header)) (λ h. Ok (partial_back x)) x.header.said

pub split_one : (x y : Result PartialDecode PacketDecodeError) (o : Split) → Named o.header → split_of x ≡ o → split_of y ≡ o → x ≡ y
unfolding split_of decoded_of partial_of no_packet
split_one = one_where split_of split_back (λ o. Named o.header) back
  where
    back : (r : Result PartialDecode PacketDecodeError) → Named (split_of r).header → split_back (split_of r) ≡ r
    back (Ok d) n = ap Ok (partial_back_law d)
    back (Err (error.UnsupportedVersion dst src v)) n = refl
    back (Err (error.Refused why)) n = ap Err (error_back_law (error.Refused why) n)

abbrev stepped_back : Met → Outcome → Maybe Stepped
stepped_back at_end o = None
stepped_back (packet start len) o = Some (record { packet = record { start = start; len = len }; plain_header = decoded_back o })
stepped_back (refused_at start) o = None

stepped_back_law : (x : Maybe Stepped) → stepped_back (packet_step_of (Ok x)).met (packet_step_of (Ok x)).header ≡ x
unfolding packet_step_of
stepped_back_law (Some x) = rw (decoded_back_law x.plain_header)
stepped_back_law None = refl

pub stepped_one : (x y : Maybe Stepped) (o : PacketStep) → packet_step_of (Ok x) ≡ o → packet_step_of (Ok y) ≡ o → x ≡ y
stepped_one = one_by (λ x. packet_step_of (Ok x)) (λ o. stepped_back o.met o.header) stepped_back_law

abbrev step_met : Met → Outcome → Result (Maybe Stepped) StepError
step_met at_end o = Ok None
step_met (packet start len) o = Ok (Some (record { packet = record { start = start; len = len }; plain_header = decoded_back o }))
step_met (refused_at start) o = Err (record { start = start; why = error_back o })

pub step_one : (x y : Result (Maybe Stepped) StepError) (o : PacketStep) → Named o.header → packet_step_of x ≡ o → packet_step_of y ≡ o → x ≡ y
unfolding packet_step_of
step_one = one_where packet_step_of (λ x. step_met x.met x.header) (λ o. Named o.header) back
  where
    back : (r : Result (Maybe Stepped) StepError) → Named (packet_step_of r).header → step_met (packet_step_of r).met (packet_step_of r).header ≡ r
    back (Ok (Some x)) n = rw (decoded_back_law x.plain_header)
    back (Ok None) n = refl
    back (Err e) n = rw (error_back_law e.why n)
