-- What a record says of a header, where a packet was refused, and where it was changed.
use Rattle.std.specs.Prelude.{eqb}
use Prim.Native.Nat.{ℕ, ◌≤◌}
use mathlib.Core.Path.{◌≡◌, refl, sym, ap, ◌∙◌}
use mathlib.Core.Bool.{Bool, false, not}
use mathlib.Core.List.{List}
use native.Mathlib.Omega.{arith}
use lib.ListN.{length}
use borrow.Author.Tests.{ne_eqb}
use Rattle.coding.specs.Words.{Answer, ok}
use Rattle.coding.specs.Refusals.{number_of}
use Rattle.coding.specs.declared.refusal.Refusal.{Refusal}
use Rattle.coding.specs.declared.refusal.Refusal.TheVariants as refusal
use Rattle.coding.proofs.Numbers.{refusal_of, refusal_back, one_refusal}
use Rattle.packet.specs.Header.{Header, initial, zero_rtt, handshake, retry, short, negotiate, Outcome, is_long}
use Rattle.packet.specs.Split.{token_in}
use Rattle.packet.specs.Said.{error_of}
use Rattle.packet.specs.declared.error.PacketDecodeError.{PacketDecodeError}
use Rattle.packet.specs.declared.error.PacketDecodeError.TheVariants as error
use Rattle.protect.specs.Steps.{Changed, Opened, finished, only_done}
use Rattle.gateway.specs.Arguments.{long_kind, numbered_kind}
use Rattle.gateway_frame.specs.Spans.{span_of}
use Rattle.gateway.specs.Packets.{said_numbers, record_by, unmask_record, unmask_at, UnmasksPacket, mask_record, mask_for, MasksPacket}
use Rattle.gateway.specs.GivesBack.{header_back}
use Rattle.gateway.specs.declared.records.UnmaskAnswer.{UnmaskAnswer}
use Rattle.gateway.proofs.Taken.{flag_back}

-- ---- a header that was read: its numbers, and the header given back

pub record ReadAs (x : Header) : Type 0 where
  pub done : (said_numbers (ok x)).refusal ≡ 0
  pub form : eqb (said_numbers (ok x)).kind 4 ≡ not (is_long (ok x))
  pub few : (said_numbers (ok x)).kind ≤ 5
  pub token : (said_numbers (ok x)).token ≡ span_of (token_in (ok x))
  pub back : (start len : ℕ) (o : Outcome) → header_back (record_by (said_numbers (ok x)) start len o) ≡ ok x

pub read_as : (x : Header) → ReadAs x
read_as (initial token len) = record { done = refl; form = refl; few = omega arith; token = refl; back = λ _ _ _. refl }
read_as (zero_rtt len) = record { done = refl; form = refl; few = omega arith; token = refl; back = λ _ _ _. refl }
read_as (handshake len) = record { done = refl; form = refl; few = omega arith; token = refl; back = λ _ _ _. refl }
read_as retry = record { done = refl; form = refl; few = omega arith; token = refl; back = λ _ _ _. refl }
read_as (short spin) = record { done = refl; form = refl; few = omega arith; token = refl; back = λ _ _ _. ap (λ (b : Bool). ok (short b)) (flag_back spin) }
read_as (negotiate bits) = record { done = refl; form = refl; few = omega arith; token = refl; back = λ _ _ _. refl }

pub read_refusal : (x : Header) → (said_numbers (ok x)).refusal ≡ 0
read_refusal x = (read_as x).done

pub read_kind : (x : Header) → eqb (said_numbers (ok x)).kind 4 ≡ not (is_long (ok x))
read_kind x = (read_as x).form

-- ---- one that was refused: it ends nowhere, and its number is not 0, nor 4 but for a version

pub no_end : (e : PacketDecodeError) → (error_of e).end ≡ 0
no_end (error.UnsupportedVersion dst src version) = refl
no_end (error.Refused why) = refl

pub not_none : (r : Refusal) → eqb (number_of r) 0 ≡ false
not_none r =
    ne_eqb (number_of r) 0 (λ e.
    let last : r ≡ refusal.TooFar = sym (refusal_back r) ∙ ap refusal_of e in
    omega (arith, sym e ∙ ap number_of last))

pub not_version : (r : Refusal) → (r ≡ refusal.Version → ⊥) → eqb (number_of r) 4 ≡ false
not_version r n = ne_eqb (number_of r) 4 (λ e. n (one_refusal r refusal.Version e))

pub ruleset answered = (read_refusal, read_kind, no_end, not_none, not_version)

-- ---- unmask and mask

module _ {old new : List ℕ} {mask : List ℕ} where
  pub unmasks : {kind at : ℕ} {said : Answer Opened} {r : UnmaskAnswer} → Changed (finished (numbered_kind kind) (long_kind kind) at) (unmask_at kind old at mask) old said new
      → r ≡ unmask_record at (length old) said → UnmasksPacket kind old at mask r new
  unmasks {at} f q = record { says = q ∙ ap (unmask_record at (length old)) f.says; leaves = f.leaves }

  pub masks : {header_len len has_length r : ℕ} {said : Answer (Unit {0})} → Changed only_done (mask_for header_len len has_length old mask) old said new
      → r ≡ mask_record said → MasksPacket header_len len has_length old mask r new
  masks f q = record { says = q ∙ ap mask_record f.says; leaves = f.leaves }

pub ruleset changes = (unmasks, masks)
