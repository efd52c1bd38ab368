-- Each map from the code's answers to the paper's words has an inverse: what is said settles the answer.
use Prim.Native.Nat.{ℕ}
use Rattle.std.specs.Prelude.{Option, Some, None, Result, Ok, Err}
use mathlib.Core.Path.{◌≡◌, refl, ap, ◌∙◌}
use Rattle.coding.specs.Words.{Answer}
use Rattle.coding.specs.declared.refusal.Refusal.{Refusal}
use Rattle.coding.proofs.Numbers.{refusal_of, refusal_back}
use Rattle.coding.proofs.Inverse.{one_by, answered}
use Rattle.shared.specs.declared.kinds.CutNumber.{CutNumber}
use Rattle.shared.specs.declared.kinds.FullNumber.{FullNumber}
use Rattle.number.specs.Ends.{SoFar, none, at, Ends, Packet, Call}
use Rattle.number.specs.Said.{full_of, so_far_of, ends_of, sent_of, kept_of}
use Rattle.number.specs.declared.ends.Space.{Space}

pub full_one : (x y : Result FullNumber Refusal) (g : Answer ℕ) → full_of x ≡ g → full_of y ≡ g → x ≡ y
unfolding full_of
full_one = one_by full_of (answered (λ k. Err (refusal_of k)) (λ n. Ok (record { 0 = n }))) back
  where
    back : (r : Result FullNumber Refusal) → answered (λ k. Err (refusal_of k)) (λ n. Ok (record { 0 = n })) (full_of r) ≡ r
    back (Ok n) = refl
    back (Err why) = ap Err (refusal_back why)

-- the code's record of a paper's
abbrev largest_at : SoFar → Option FullNumber
largest_at none = None
largest_at (at m) = Some (record { 0 = m })

abbrev pub space_of : Ends → Space
space_of e = record { next = record { 0 = e.next }; acked = largest_at e.acked; largest = largest_at e.largest }

largest_back : (l : Option FullNumber) → largest_at (so_far_of l) ≡ l
unfolding so_far_of
largest_back None = refl
largest_back (Some m) = refl

pub space_back : (s : Space) → space_of (ends_of s) ≡ s
space_back s i = record { next = s.next; acked = largest_back s.acked i; largest = largest_back s.largest i }

pub space_one : (x y : Space) (g : Ends) → ends_of x ≡ g → ends_of y ≡ g → x ≡ y
space_one = one_by ends_of space_of space_back

-- an answer and the record afterwards, as one value
module _ {A B : Type 0} (said : Result A Refusal → Space → Call B) (back : Answer B → Result A Refusal)
    (same : (r : Result A Refusal) (s : Space) → (back (said r s).says ≡ r) × ((said r s).leaves ≡ ends_of s)) where
  one_call : (x y : Result A Refusal × Space) (g : Call B) → said x.0 x.1 ≡ g → said y.0 y.1 ≡ g → x ≡ y
  one_call = one_by (λ x. said x.0 x.1) (λ g. (back g.says, space_of g.leaves)) (λ (r, s) i. ((same r s).0 i, (ap space_of (same r s).1 ∙ space_back s) i))

abbrev pub sent_back : Answer Packet → Result (FullNumber × CutNumber) Refusal
sent_back = answered (λ k. Err (refusal_of k)) (λ p. Ok (record { 0 = p.number }, p.carries))

pub sent_one : (x y : Result (FullNumber × CutNumber) Refusal × Space) (g : Call Packet) → sent_of x.0 x.1 ≡ g → sent_of y.0 y.1 ≡ g → x ≡ y
unfolding sent_of
sent_one = one_call sent_of sent_back same
  where
    same : (r : Result (FullNumber × CutNumber) Refusal) (s : Space) → (sent_back (sent_of r s).says ≡ r) × ((sent_of r s).leaves ≡ ends_of s)
    same (Ok p) s = (refl, refl)
    same (Err why) s = (ap Err (refusal_back why), refl)

abbrev pub kept_back : Answer Unit → Result Unit Refusal
kept_back = answered (λ k. Err (refusal_of k)) Ok

pub kept_one : (x y : Result Unit Refusal × Space) (g : Call Unit) → kept_of x.0 x.1 ≡ g → kept_of y.0 y.1 ≡ g → x ≡ y
unfolding kept_of
kept_one = one_call kept_of kept_back same
  where
    same : (r : Result Unit Refusal) (s : Space) → (kept_back (kept_of r s).says ≡ r) × ((kept_of r s).leaves ≡ ends_of s)
    same (Ok u) s = (refl, refl)
    same (Err why) s = (ap Err (refusal_back why), refl)
