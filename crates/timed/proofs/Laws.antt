-- What a turn of each loop comes to, and what a writer's answer is as a record.
use Rattle.std.specs.Prelude.{◌⊎◌, if◌then◌else◌}
use Rattle.std.proofs.Common.{inl, inr}
use mathlib.Core.Bool.{Bool, true, false}
use lib.Dec.{ltb}
use Prim.Native.Nat.{ℕ, zero, suc, ◌+◌, ◌-◌, ◌≤◌, ◌<◌, ◌^◌}
use mathlib.Core.Path.{◌≡◌, refl, ◌∙◌, ap}
use mathlib.Core.List.{List, ◌∷◌, map}
use native.Mathlib.Numerals.{add-one}
use native.Mathlib.Omega.{arith}
use lib.ListN.{length, drop, get_or}
use lib.Seq.{drop-cons, drop-length}
use lib.Bits.{bit_xor}
use borrow.Author.Tests.{lt-ltb, le-ltb}
use Rattle.shared.specs.declared.kinds.CutNumber.{CutNumber}
use Rattle.number.specs.Cutting.{is_cut}
use Rattle.number.specs.Expanding.{expanded}
use Rattle.coding.specs.Words.{cut, got, and_then, Answer, no, ok}
use Rattle.coding.specs.Varint.{var_at}
use Rattle.coding.specs.Writing.{Written}
use Rattle.timed.specs.Timed.{gathered_from, gathered, vars_from, vars_of, write_record, flagged, Writes}
use Rattle.timed.specs.declared.WriteAnswer.{WriteAnswer}

-- ---- integers one after the other: as many turns are over as integers are counted

pub start : (s : List ℕ) → gathered_from (vars_from (length s - 0) s 0) 0 0 ≡ gathered (vars_of s)
unfolding gathered vars_of
start s = let e : length s - 0 ≡ length s = omega arith in ap (λ (n : ℕ). gathered_from (vars_from n s 0) 0 0) e

module _ (s : List ℕ) (at count mixed : ℕ) where
  -- no byte is left
  pub vars_end : (n : ℕ) → length s ≤ at → gathered_from (vars_from n s at) count mixed ≡ record { refusal = 0; count = count; mixed = mixed }
  unfolding gathered_from vars_from
  vars_end zero h = refl
  vars_end (suc n) h = rw (le-ltb at (length s) h)

  -- a byte is left, so a turn is
  module _ (h : count ≤ at) (k : at < length s) where
    turn : length s - count ≡ suc (length s - (count + 1))
    turn = omega arith

    pub vars_cut : var_at s at ≡ cut → gathered_from (vars_from (length s - count) s at) count mixed ≡ record { refusal = 10; count = count; mixed = mixed }
    unfolding gathered_from vars_from and_then
    vars_cut e = rw (turn, lt-ltb at (length s) k, e)

    pub vars_on : (v next : ℕ) → var_at s at ≡ got v next
        → gathered_from (vars_from (length s - count) s at) count mixed ≡ gathered_from (vars_from (length s - (count + 1)) s next) (count + 1) (bit_xor mixed v)
    unfolding gathered_from vars_from and_then
    vars_on v next e = rw (turn, lt-ltb at (length s) k, e)

-- ---- the items of a slice, each by what f says

module _ {A : Type 0} (f : A → Answer ℕ) (xs : List A) (i mixed : ℕ) where
  -- none is left
  pub none : i ≤ length xs → length xs ≤ i → gathered_from (map f (drop i xs)) i mixed ≡ record { refusal = 0; count = length xs; mixed = mixed }
  unfolding gathered_from
  none h k = let e : i ≡ length xs = omega arith in rw (e, drop-length)

  module _ (d : A) (h : i < length xs) where
    one : map f (drop i xs) ≡ f (get_or xs i d) ∷ map f (drop (i + 1) xs)
    one = rw (drop-cons xs i d h, add-one)

    pub stops : (k : ℕ) → f (get_or xs i d) ≡ no k → gathered_from (map f (drop i xs)) i mixed ≡ record { refusal = k; count = i; mixed = mixed }
    unfolding gathered_from
    stops k e = rw (one, e)

    pub goes_on : (v : ℕ) → f (get_or xs i d) ≡ ok v
        → gathered_from (map f (drop i xs)) i mixed ≡ gathered_from (map f (drop (i + 1) xs)) (i + 1) (bit_xor mixed v)
    unfolding gathered_from
    goes_on v e = rw (one, e)

-- a cut number that is not read back is refused 14
pub only_14 : (c : CutNumber) (e k : ℕ) → expanded c e ≡ no k → expanded c e ≡ no 14
unfolding expanded
only_14 c e k = go (is_cut c) (ltb (2 ^ 62) e) _
  where
    go : (t u : Bool) (n : ℕ) → (if t then (if u then no 14 else ok n) else no 14) ≡ no k → (if t then (if u then no 14 else ok n) else no 14) ≡ no 14
    go true true n h = refl
    go true false n h = let z : ◌≡◌ {A = ℕ} 0 1 = cc in absurd (omega arith)
    go false u n h = refl

-- ---- writers

-- a writer's answer, and its record
pub so : {w : Answer (List ℕ)} {old : List ℕ} {said : Answer ℕ} {new : List ℕ} {r : WriteAnswer}
    → Written w old said new → r ≡ write_record said → Writes w old r new
so f q = record { says = q ∙ ap write_record f.says; leaves = f.leaves }

module _ (flag : ℕ) (w : Answer (List ℕ)) where
  pub flag_no : 1 < flag → flagged flag w ≡ no 14
  unfolding flagged
  flag_no h = rw (lt-ltb 1 flag h)

  pub flag_on : flag ≤ 1 → flagged flag w ≡ w
  unfolding flagged
  flag_on h = rw (le-ltb 1 flag h)

-- two flags, as they are tested
module _ (a b : ℕ) (w : Answer (List ℕ)) where
  pub flags_no : (1 < a) ⊎ ((a ≤ 1) × (1 < b)) → flagged a (flagged b w) ≡ no 14
  flags_no (inl i) = flag_no a (flagged b w) i
  flags_no (inr i) = flag_on a (flagged b w) i.0 ∙ flag_no b w i.1

  pub flags_on : a ≤ 1 → b ≤ 1 → flagged a (flagged b w) ≡ w
  flags_on h k = flag_on a (flagged b w) h ∙ flag_on b w k
