-- Each map from the code's answers to the paper's words has an inverse: what is said settles the answer.
use Rattle.std.specs.Prelude.{Option, Some, None, Result, Ok, Err}
use mathlib.Core.Path.{◌≡◌, refl, ap, ◌∙◌}
use mathlib.Core.Option as math
use Rattle.coding.specs.Words.{Answer}
use Rattle.coding.specs.declared.refusal.Refusal.{Refusal}
use Rattle.coding.proofs.Numbers.{refusal_back}
use Rattle.coding.proofs.Inverse.{one_by}
use Rattle.shared.specs.declared.kinds.CutNumber.{CutNumber}
use Rattle.shared.specs.declared.kinds.FullNumber.{FullNumber}
use Rattle.number.specs.Ends.{Packet}
use Rattle.number.proofs.Inverse.{space_of, space_back, sent_back, kept_back}
use Rattle.packet.specs.declared.header.SpaceId.{SpaceId}
use Rattle.spaces.specs.Calls.{Spaces, Told}
use Rattle.spaces.specs.Said.{in_of, id_in, spaces_of, sent_all_of, kept_all_of}
use Rattle.spaces.specs.declared.Spaces.{Spaces as Record}

pub in_one : (x y : Option SpaceId) (g : math.Option SpaceId) → in_of x ≡ g → in_of y ≡ g → x ≡ y
in_one = one_by in_of id_in back
  where
    back : (x : Option SpaceId) → id_in (in_of x) ≡ x
    back (Some s) = refl
    back None = refl

abbrev record_of : Spaces → Record
record_of x = record { initial = space_of x.initial; handshake = space_of x.handshake; «data» = space_of x.«data» }

record_back : (r : Record) → record_of (spaces_of r) ≡ r
record_back r i = record { initial = space_back r.initial i; handshake = space_back r.handshake i; «data» = space_back r.«data» i }

pub spaces_one : (x y : Record) (g : Spaces) → spaces_of x ≡ g → spaces_of y ≡ g → x ≡ y
spaces_one = one_by spaces_of record_of record_back

-- an answer and the record afterwards, as one value
module _ {A B : Type 0} (said : Result A Refusal → Record → Told Spaces B) (back : Answer B → Result A Refusal)
    (same : (r : Result A Refusal) (s : Record) → (back (said r s).says ≡ r) × ((said r s).leaves ≡ spaces_of s)) where
  one_call : (x y : Result A Refusal × Record) (g : Told Spaces B) → said x.0 x.1 ≡ g → said y.0 y.1 ≡ g → x ≡ y
  one_call = one_by (λ x. said x.0 x.1) (λ g. (back g.says, record_of g.leaves)) (λ (r, s) i. ((same r s).0 i, (ap record_of (same r s).1 ∙ record_back s) i))

pub sent_one : (x y : Result (FullNumber × CutNumber) Refusal × Record) (g : Told Spaces Packet) → sent_all_of x.0 x.1 ≡ g → sent_all_of y.0 y.1 ≡ g → x ≡ y
unfolding sent_all_of
sent_one = one_call sent_all_of sent_back same
  where
    same : (r : Result (FullNumber × CutNumber) Refusal) (s : Record) → (sent_back (sent_all_of r s).says ≡ r) × ((sent_all_of r s).leaves ≡ spaces_of s)
    same (Ok p) s = (refl, refl)
    same (Err why) s = (ap Err (refusal_back why), refl)

pub kept_one : (x y : Result Unit Refusal × Record) (g : Told Spaces Unit) → kept_all_of x.0 x.1 ≡ g → kept_all_of y.0 y.1 ≡ g → x ≡ y
unfolding kept_all_of
kept_one = one_call kept_all_of kept_back same
  where
    same : (r : Result Unit Refusal) (s : Record) → (kept_back (kept_all_of r s).says ≡ r) × ((kept_all_of r s).leaves ≡ spaces_of s)
    same (Ok u) s = (refl, refl)
    same (Err why) s = (ap Err (refusal_back why), refl)
