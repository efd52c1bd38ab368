-- What the list's rule gives, and the blocks as the differences of neighbours in the list.
use Rattle.std.specs.Prelude.{if◌then◌else◌}
use Rattle.std.specs.List.{IsAllAdjacentAnswer}
use native.Mathlib.Numerals.{add-one}
use mathlib.Core.Path.{◌≡◌, refl, sym}
use mathlib.Core.List.{List, [], ◌∷◌, ◌++◌}
use mathlib.Core.Bool.{Bool, true, false}
use Prim.Native.Nat.{ℕ, zero, suc, ◌+◌, ◌-◌, ◌*◌, ◌/◌, ◌%◌, ◌≤◌, ◌<◌, ◌^◌}
use native.Mathlib.Omega.{arith}
use lib.Dec.{ltb, leb, eqb}
use lib.ListN.{length, get_or}
use borrow.Author.Tests.{ltb-true, ltb-false, leb-false, eqb-false, le-leb, lt-leb}
use Rattle.coding.specs.Varint.{var_bytes}
use Rattle.row_out.specs.Limits.{vars_bytes}
use Rattle.ack_out.specs.Acks.{ascends, is_ranges, range_at, ranges_of, all_ranges, round_numbers, block_numbers}
use Rattle.ack_out.proofs.Blocks.{Below}

abbrev pub at : List ℕ → ℕ → ℕ
at l i = get_or l i 0

-- ---- what the list's rule gives

-- a choice that is true
pub not_then : (t x : Bool) → (if t then false else x) ≡ true → (t ≡ false) × (x ≡ true)
not_then true x h = let z : ◌≡◌ {A = ℕ} 0 1 = cc in absurd (omega arith)
not_then false x h = (refl, h)

pub rises : (l : List ℕ) (i : ℕ) → ascends l ≡ true → suc i < length l → at l i < at l (suc i)
unfolding ascends
rises [] i h k = absurd (omega arith)
rises (a ∷ []) i h k = absurd (omega arith)
rises (a ∷ b ∷ l) zero h k = leb-false _ _ (not_then (leb b a) _ h).0
rises (a ∷ b ∷ l) (suc i) h k = rises (b ∷ l) i (not_then (leb b a) _ h).1 (omega arith)

pub climbs : (l : List ℕ) (i k : ℕ) → ascends l ≡ true → i + k < length l → at l i ≤ at l (i + k)
climbs l i zero h b = let e : i + 0 ≡ i = omega arith in rw e (omega arith)
climbs l i (suc k) h b =
    let e : i + suc k ≡ suc (i + k) = omega arith in
    let c = climbs l i k h (omega arith) in
    let r = rises l (i + k) h (omega arith) in
    rw e (omega arith)

pub record Kept (l : List ℕ) : Type 0 where
  pub some : 0 < length l
  pub even : length l ≡ 2 * (length l / 2)
  pub top : at l (length l - 1) ≤ 2 ^ 62
  pub up : ascends l ≡ true

pub kept : (l : List ℕ) → is_ranges l ≡ true → Kept l
unfolding is_ranges
kept l h =
    let a = not_then (eqb (length l) 0) _ h in
    let b = not_then (eqb (length l % 2) 1) _ a.1 in
    let c = not_then (ltb (2 ^ 62) (at l (length l - 1))) _ b.1 in
    let x = eqb-false (length l) 0 a.0 in
    let y = eqb-false (length l % 2) 1 b.0 in
    record { some = omega arith; even = omega arith; top = ltb-false _ _ c.0; up = c.1 }

-- ---- the ranges of a list that keeps its rule

-- the ranges of the first n pairs stand below the start of pair n
pub pairs_below : (l : List ℕ) (n : ℕ) → ascends l ≡ true → 2 * n < length l → Below (at l (2 * n)) (ranges_of l n)
unfolding ranges_of range_at
pairs_below l zero u h = tt
pairs_below l (suc n) u h =
    let e : 2 * suc n ≡ suc (2 * n + 1) = omega arith in
    let f : 2 * n + 1 ≡ suc (2 * n) = omega arith in
    let a : at l (2 * n) < at l (2 * n + 1) = rw f (rises l (2 * n) u (omega arith)) in
    let b : at l (2 * n + 1) < at l (2 * suc n) = rw e (rises l (2 * n + 1) u (omega arith)) in
    (omega arith, (omega arith, pairs_below l n u (omega arith)))

-- the differences of neighbours less one, from number n down
abbrev pub steps : List ℕ → ℕ → List ℕ
steps l zero = []
steps l (suc n) = (at l (suc n) - at l n - 1) ∷ steps l n

gap_same : (a b : ℕ) → 0 < a → b - (a - 1) - 2 ≡ b - a - 1
gap_same a b h = omega arith

block_same : (a b : ℕ) → b - 1 - a ≡ b - a - 1
block_same a b = omega arith

-- are the gaps and blocks below the start of pair n
pub steps_rounds : (l : List ℕ) (n : ℕ) → ascends l ≡ true → 2 * n < length l → round_numbers (at l (2 * n)) (ranges_of l n) ≡ steps l (2 * n)
unfolding round_numbers ranges_of range_at
steps_rounds l zero u h = refl
steps_rounds l (suc n) u h =
    let e : 2 * suc n ≡ suc (suc (2 * n)) = omega arith in
    let f : 2 * n + 1 ≡ suc (2 * n) = omega arith in
    let a : at l (2 * n) < at l (suc (2 * n)) = rises l (2 * n) u (omega arith) in
    rw (e, f, gap_same (at l (suc (2 * n))) (at l (suc (suc (2 * n)))) (omega arith), block_same (at l (2 * n)) (at l (suc (2 * n))), steps_rounds l n u (omega arith))

-- and so the blocks are the differences from the last number down
pub record Blocks (l : List ℕ) (n : ℕ) : Type 0 where
  pub pair : length l ≡ 2 * suc n
  pub ranged : all_ranges l ≡ range_at l n ∷ ranges_of l n
  pub numbers : block_numbers (all_ranges l) ≡ steps l (length l - 1)

pub blocks_of : (l : List ℕ) (n : ℕ) → Kept l → length l / 2 ≡ suc n → Blocks l n
unfolding ranges_of block_numbers range_at
blocks_of l n k half =
    let last : length l - 1 ≡ suc (2 * n) = omega arith in
    let f : 2 * n + 1 ≡ suc (2 * n) = omega arith in
    record {
      pair = omega arith;
      ranged = rw half;
      numbers = rw (half, last, f, block_same (at l (2 * n)) (at l (suc (2 * n))), steps_rounds l n k.up (omega arith));
    }

-- ---- what the code's test says of neighbours

all_rise : (l : List ℕ) → ((i : ℕ) → suc i < length l → at l i < at l (suc i)) → ascends l ≡ true
unfolding ascends
all_rise [] h = refl
all_rise (a ∷ []) h = refl
all_rise (a ∷ b ∷ l) h = rw (lt-leb b a (h 0 (omega arith))) (all_rise (b ∷ l) (λ i k. h (suc i) (omega arith)))

one_falls : (l : List ℕ) (i : ℕ) → suc i < length l → at l (suc i) ≤ at l i → ascends l ≡ false
unfolding ascends
one_falls [] i h k = absurd (omega arith)
one_falls (a ∷ []) i h k = absurd (omega arith)
one_falls (a ∷ b ∷ l) zero h k = rw (le-leb b a k)
one_falls (a ∷ b ∷ l) (suc i) h k = rw (one_falls (b ∷ l) i (omega arith) k) (go (leb b a))
  where
    go : (t : Bool) → (if t then false else false) ≡ false
    go true = refl
    go false = refl

pub ascends_by : (l : List ℕ) (r : Bool) → IsAllAdjacentAnswer (λ x y b. b ≡ ltb x y) l r → r ≡ ascends l
ascends_by l true h = sym (all_rise l (λ i k. ltb-true (at l i) (at l (suc i)) (sym (rw add-one at (h i 0 (omega arith))))))
ascends_by l false (i, k, h) = sym (one_falls l i (omega arith) (ltb-false (at l i) (at l (suc i)) (sym (rw add-one at (h 0)))))

-- ---- what the loops go by

-- the difference above number i: there is one, and it has a form
pub record Stepped (l : List ℕ) (i : ℕ) : Type 0 where
  pub above : at l i < at l (i + 1)
  pub small : at l (i + 1) - at l i - 1 < 2 ^ 62

pub stepped : (l : List ℕ) (i : ℕ) → Kept l → i + 1 < length l → Stepped l i
stepped l i k b =
    let f : suc i + (length l - 1 - suc i) ≡ length l - 1 = omega arith in
    let r : at l i < at l (i + 1) = rw add-one (rises l i k.up (omega arith)) in
    let c : at l (suc i) ≤ at l (length l - 1) = rw f at (climbs l (suc i) (length l - 1 - suc i) k.up (omega arith)) in
    let d : at l (i + 1) ≤ at l (length l - 1) = rw add-one c in
    record { above = r; small = omega (arith, k.top) }

pub steps_one : (l : List ℕ) (i : ℕ) → 0 < i → steps l i ≡ (at l (i - 1 + 1) - at l (i - 1) - 1) ∷ steps l (i - 1)
steps_one l zero h = absurd (omega arith)
steps_one l (suc i) h = let e : suc i - 1 ≡ i = omega arith in rw (e, add-one)

pub steps_none : (l : List ℕ) (i : ℕ) → i ≤ 0 → steps l i ≡ []
steps_none l zero h = refl
steps_none l (suc i) h = absurd (omega arith)

-- the bytes of the differences from number i down
abbrev pub step_bytes : List ℕ → ℕ → List ℕ
step_bytes l i = vars_bytes (steps l i)

pub bytes_one : (l : List ℕ) (i x : ℕ) → 0 < i → x ≡ at l (i - 1 + 1) - at l (i - 1) - 1 → step_bytes l i ≡ var_bytes x ++ step_bytes l (i - 1)
unfolding vars_bytes
bytes_one l i x h e = rw (steps_one l i h, e)

pub bytes_none : (l : List ℕ) (i : ℕ) → i ≤ 0 → step_bytes l i ≡ []
unfolding vars_bytes
bytes_none l i h = rw (steps_none l i h)
