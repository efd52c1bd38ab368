-- Laws of numbers in decimal and of bytes in hex.
use mathlib.Core.Path.{◌≡◌, refl, ap, ◌∙◌}
use mathlib.Core.List.{List, [], ◌∷◌, ◌++◌}
use mathlib.Core.Bool.{Bool, true, false}
use Prim.Native.Nat.{ℕ, zero, suc, ◌+◌, ◌-◌, ◌*◌, ◌/◌, ◌%◌, ◌^◌, ◌≤◌, ◌<◌}
use native.Mathlib.Nat.{not-suc-le-zero, pow-suc, one-le-pow, div-lt_iff_lt-mul}
use native.Mathlib.Numerals.{add-one}
use native.Mathlib.Omega.{arith}
use lib.Dec.{ltb}
use lib.ListN.{length, take, get_or, length-append, get_or-append}
use lib.Seq.{take-suc}
use borrow.Author.Tests.{ltb-true, ltb-false, lt-ltb, le-ltb}
use Rattle.text.specs.Decimal.{digits, decimal}
use Rattle.text.specs.Hex.{hex_digit, hex_of, hex_or}

-- ---- the two cases

by_size : (x : ℕ) {P : Type 0} → (x < 10 → P) → (10 ≤ x → P) → P
by_size x {P} one more = go (ltb x 10) refl
  where
    go : (t : Bool) → ltb x 10 ≡ t → P
    go true e = one (ltb-true x 10 e)
    go false e = more (ltb-false x 10 e)

-- any n that is more than x gives all the digits
enough : (n m x : ℕ) → x < n → x < m → digits n x ≡ digits m x
unfolding digits
enough zero m x h k = absurd (not-suc-le-zero h)
enough (suc n) zero x h k = absurd (not-suc-le-zero k)
enough (suc n) (suc m) x h k =
    by_size x (λ l. rw (lt-ltb x 10 l))
    (λ g. rw (le-ltb x 10 g) (ap (λ (l : List ℕ). l ++ ((0x30 + x % 10) ∷ [])) (enough n m (x / 10) (omega arith) (omega arith))))

pub one_digit : (x : ℕ) → x < 10 → decimal x ≡ (0x30 + x % 10) ∷ []
unfolding decimal digits
one_digit x h = rw (lt-ltb x 10 h)

pub more_digits : (x : ℕ) → 10 ≤ x → decimal x ≡ decimal (x / 10) ++ ((0x30 + x % 10) ∷ [])
unfolding decimal digits
more_digits x h = rw (le-ltb x 10 h) (ap (λ (l : List ℕ). l ++ ((0x30 + x % 10) ∷ [])) (enough x (suc (x / 10)) (x / 10) (omega arith) (omega arith)))

-- what holds of one digit, and of a number if of its tenth, holds of every number
pub by_digits : (P : ℕ → Type 0) → ((x : ℕ) → x < 10 → P x) → ((x : ℕ) → 10 ≤ x → P (x / 10) → P x) → (x : ℕ) → P x
by_digits P one more x = go (suc x) x (omega arith)
  where
    go : (n x : ℕ) → x < n → P x
    go zero x h = absurd (not-suc-le-zero h)
    go (suc n) x h = by_size x (λ l. one x l) (λ g. more x g (go n (x / 10) (omega arith)))

-- ---- how many

pub length_one : (x : ℕ) → x < 10 → length (decimal x) ≡ 1
length_one x h = ap length (one_digit x h)

pub length_more : (x : ℕ) → 10 ≤ x → length (decimal x) ≡ length (decimal (x / 10)) + 1
length_more x h = ap length (more_digits x h) ∙ simp length-append

pub decimal_some : (x : ℕ) → 1 ≤ length (decimal x)
decimal_some = by_digits (λ x. 1 ≤ length (decimal x)) (λ x h. omega (arith, length_one x h)) (λ x h ih. omega (arith, length_more x h))

-- a number below 10^n has at most n digits
pub length_below : (n x : ℕ) → 1 ≤ n → x < 10 ^ n → length (decimal x) ≤ n
length_below zero x h k = absurd (not-suc-le-zero h)
length_below (suc zero) x h k = omega (arith, length_one x (omega arith))
length_below (suc (suc n)) x h k =
    let p : x < 10 ^ suc n * 10 = rw pow-suc at k in
    by_size x (λ l. omega (arith, length_one x l))
    (λ g. omega (arith, length_more x g, length_below (suc n) (x / 10) (omega arith) ((div-lt_iff_lt-mul (omega arith)).1 p)))

-- and from 10^k on more than k
length_above : (k x : ℕ) → 10 ^ k ≤ x → k + 1 ≤ length (decimal x)
length_above zero x h = decimal_some x
length_above (suc k) x h =
    let p : 10 ^ k * 10 ≤ x = rw pow-suc at h in
    let q : 10 ^ k ≤ x / 10 = omega arith in
    omega (arith, length_more x (omega (arith, one-le-pow k 10 (omega arith))), length_above k (x / 10) q)

pub length_power : (x k : ℕ) → 10 ^ k ≤ x → x < 10 * 10 ^ k → length (decimal x) ≡ k + 1
length_power x k h g =
    let p : x < 10 ^ suc k = rw pow-suc (omega arith) in
    omega (arith, length_above k x h, length_below (suc k) x (omega arith) p)

-- ---- the digits say the number, and none is a leading zero

-- the number that v and then the digits ds make
unfoldable pub value_of : ℕ → List ℕ → ℕ
value_of v [] = v
value_of v (d ∷ ds) = value_of (v * 10 + (d - 0x30)) ds

value_last : (v : ℕ) (ds : List ℕ) (d : ℕ) → value_of v (ds ++ (d ∷ [])) ≡ value_of v ds * 10 + (d - 0x30)
unfolding value_of
value_last v [] d = refl
value_last v (x ∷ ds) d = value_last (v * 10 + (x - 0x30)) ds d

pub decimal_back : (x : ℕ) → value_of 0 (decimal x) ≡ x
unfolding value_of
decimal_back = by_digits (λ x. value_of 0 (decimal x) ≡ x) one more
  where
    one : (x : ℕ) → x < 10 → value_of 0 (decimal x) ≡ x
    one x h = rw (one_digit x h) (omega arith)

    more : (x : ℕ) → 10 ≤ x → value_of 0 (decimal (x / 10)) ≡ x / 10 → value_of 0 (decimal x) ≡ x
    more x h ih = rw (more_digits x h, value_last, ih) (omega arith)

pub no_leading_zero : (x : ℕ) → 1 ≤ x → 0x30 < get_or (decimal x) 0 0
no_leading_zero = by_digits (λ x. 1 ≤ x → 0x30 < get_or (decimal x) 0 0) one more
  where
    one : (x : ℕ) → x < 10 → 1 ≤ x → 0x30 < get_or (decimal x) 0 0
    one x h k = rw (one_digit x h) (omega arith)

    more : (x : ℕ) → 10 ≤ x → (1 ≤ x / 10 → 0x30 < get_or (decimal (x / 10)) 0 0) → 1 ≤ x → 0x30 < get_or (decimal x) 0 0
    more x h ih k =
        let s : 0 < length (decimal (x / 10)) = decimal_some (x / 10) in
        rw (more_digits x h, get_or-append (decimal (x / 10)) ((0x30 + x % 10) ∷ []) 0 0 s) (ih (omega arith))

-- ---- bytes in hex

pub length_hex : (bs : List ℕ) → length (hex_of bs) ≡ 2 * length bs
unfolding hex_of
length_hex [] = refl
length_hex (b ∷ bs) = omega (arith, length_hex bs)

hex_both : (xs ys : List ℕ) → hex_of (xs ++ ys) ≡ hex_of xs ++ hex_of ys
unfolding hex_of
hex_both [] ys = refl
hex_both (x ∷ xs) ys = ap (λ (l : List ℕ). hex_digit (x / 16) ∷ hex_digit (x % 16) ∷ l) (hex_both xs ys)

-- one byte more
pub hex_more : (bs : List ℕ) (i : ℕ) → i < length bs
    → hex_of (take (i + 1) bs) ≡ hex_of (take i bs) ++ (hex_digit (get_or bs i 0 / 16) ∷ hex_digit (get_or bs i 0 % 16) ∷ [])
unfolding hex_of
hex_more bs i h = rw (add-one, take-suc bs i 0 h) (hex_both (take i bs) (get_or bs i 0 ∷ []))

pub hex_none : (none l : List ℕ) → length l ≡ 0 → hex_or none l ≡ none
unfolding hex_or
hex_none none [] h = refl
hex_none none (b ∷ bs) h = absurd (omega arith)

pub hex_some : (none l : List ℕ) → (length l ≡ 0 → ⊥) → hex_or none l ≡ hex_of l
unfolding hex_or
hex_some none [] h = absurd (h refl)
hex_some none (b ∷ bs) h = refl
