-- What one turn of this crate's loops does.
use mathlib.Core.Path.{◌≡◌, refl, sym, ap, ap₂, ◌∙◌}
use mathlib.Core.List.{List, [], ◌∷◌, ◌++◌}
use Prim.Native.Nat.{ℕ, zero, suc, ◌+◌, ◌-◌, ◌/◌, ◌%◌, ◌^◌, ◌≤◌, ◌<◌}
use native.Mathlib.Nat.{pow-suc, pow-succ', div-div-eq-div-mul, div-one, sub_self}
use native.Mathlib.Numerals.{add-one}
use native.Mathlib.Omega.{arith}
use lib.ListN.{length, set}
use lib.Seq.{sets, sets-eq, set_comm}
use Rattle.coding.specs.Bytes.{splice}
use Rattle.text.specs.Decimal.{decimal}
use Rattle.text.proofs.Laws.{by_digits, one_digit, more_digits, length_one, length_more}

-- ---- the last n digits of x, most significant first
unfoldable pub last_of : ℕ → ℕ → List ℕ
last_of zero x = []
last_of (suc n) x = (0x30 + x / 10 ^ n % 10) ∷ last_of n x

last_snoc : (n x : ℕ) → last_of (suc n) x ≡ last_of n (x / 10) ++ ((0x30 + x % 10) ∷ [])
unfolding last_of
last_snoc zero x = rw div-one
last_snoc (suc n) x = ap₂ (λ (d : ℕ) (l : List ℕ). (0x30 + d % 10) ∷ l) (ten n) (last_snoc n x)
  where
    ten : (n : ℕ) → x / 10 ^ suc n ≡ x / 10 / 10 ^ n
    ten n = rw pow-succ' (sym (div-div-eq-div-mul x 10 (10 ^ n)))

-- all the digits are the last of them
pub last_all : (x : ℕ) → last_of (length (decimal x)) x ≡ decimal x
unfolding last_of
last_all = by_digits (λ x. last_of (length (decimal x)) x ≡ decimal x) one more
  where
    one : (x : ℕ) → x < 10 → last_of (length (decimal x)) x ≡ decimal x
    one x h = rw (length_one x h, one_digit x h) (last_snoc 0 x)

    more : (x : ℕ) → 10 ≤ x → last_of (length (decimal (x / 10))) (x / 10) ≡ decimal (x / 10) → last_of (length (decimal x)) x ≡ decimal x
    more x h ih = rw (length_more x h, add-one, more_digits x h) (last_snoc (length (decimal (x / 10))) x ∙ ap (λ (l : List ℕ). l ++ ((0x30 + x % 10) ∷ [])) ih)

-- ---- storing from the last digit to the first

-- a store in front of a run of stores comes first as well
set_sets : (ys l : List ℕ) (j k y : ℕ) → j < k → set (sets l k ys) j y ≡ sets (set l j y) k ys
set_sets [] l j k y h = refl
set_sets (a ∷ ys) l j k y h =
    set_sets ys (set l k a) j (suc k) y (omega arith) ∙ ap (λ (r : List ℕ). sets r (suc k) ys) (set_comm l k j a y (λ e. omega arith))

-- one digit more, in front
pub digit_more : (l : List ℕ) (at n x i : ℕ) → 0 < i → i ≤ n
    → set (sets l (at + i) (last_of (n - i) x)) (at + (i - 1)) (0x30 + x / 10 ^ (n - i) % 10) ≡ sets l (at + (i - 1)) (last_of (n - (i - 1)) x)
unfolding last_of
digit_more l at n x i h k =
    let e : n - (i - 1) ≡ suc (n - i) = omega arith in
    let p : at + i ≡ suc (at + (i - 1)) = omega arith in
    rw (e, p) (set_sets (last_of (n - i) x) l (at + (i - 1)) (suc (at + (i - 1))) (0x30 + x / 10 ^ (n - i) % 10) (omega arith))

-- what is left of x to store
pub rest_more : (n x i : ℕ) → 0 < i → i ≤ n → x / 10 ^ (n - i) / 10 ≡ x / 10 ^ (n - (i - 1))
rest_more n x i h k =
    let e : n - (i - 1) ≡ suc (n - i) = omega arith in
    rw (e, pow-suc) (div-div-eq-div-mul x (10 ^ (n - i)) 10)

-- the stores make the splice
pub sets_decimal : (l : List ℕ) (at x : ℕ) → at + length (decimal x) ≤ length l → sets l at (last_of (length (decimal x)) x) ≡ splice l at (decimal x)
unfolding splice
sets_decimal l at x h = ap (sets l at) (last_all x) ∙ sets-eq (decimal x) l at h

pub last_none : (l : List ℕ) (at n x : ℕ) → l ≡ sets l (at + n) (last_of (n - n) x)
unfolding last_of
last_none l at n x = rw sub_self
