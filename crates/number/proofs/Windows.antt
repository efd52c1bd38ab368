-- Laws of the four windows, over the width.
use Prim.Native.Nat.{ℕ, zero, suc, ◌+◌, ◌-◌, ◌*◌, ◌/◌, ◌%◌, ◌^◌, ◌≤◌, ◌<◌}
use Rattle.std.specs.Prelude.{Some, None, if◌then◌else◌}
use native.Mathlib.Numerals.{add-one}
use mathlib.Core.Path.{◌≡◌, refl, sym, ap, ◌∙◌}
use mathlib.Core.Bool.{Bool, true, false}
use mathlib.Core.Logic.{◌⊎◌, inl, inr, ⊎_elim}
use native.Mathlib.Nat.{two-pow-succ, pow-succ', div-eq_of_lt, div-add-mod', mod-lt}
use native.Mathlib.Omega.{arith}
use Rattle.std.proofs.lemmas.Bool.{cases_lt}
use lib.Dec.{ltb, eqb}
use lib.Pow.{pow_mono, pow-add}
use borrow.Author.Tests.{ltb-true, ltb-false, eqb-false, lt-ltb, le-ltb, eq-eqb, ne_eqb}
use Rattle.shared.specs.declared.kinds.CutNumber.{CutNumber}
use Rattle.number.specs.Cutting.{window_of, is_cut, first_fit, bytes_for}
use Rattle.number.specs.Said.{fitting}

-- which of two tests holds, with the fact
pub le? : (a b : ℕ) → (a ≤ b) ⊎ (b < a)
le? a b = ⊎_elim inr inl (cases_lt b a)

-- a length has a window exactly if it is one of the four
pub window_is : (k : ℕ) → 1 ≤ k → k ≤ 4 → window_of k ≡ 2 ^ (8 * k)
unfolding window_of
window_is k p q = simp (le-ltb _ _ p, le-ltb _ _ q)

pub window_low : (k : ℕ) → k < 1 → window_of k ≡ 0
unfolding window_of
window_low k p = simp (lt-ltb _ _ p)

pub window_high : (k : ℕ) → 4 < k → window_of k ≡ 0
unfolding window_of
window_high k p = simp (le-ltb k 1 (omega arith), lt-ltb _ _ p)

-- 2^(8k) is twice 2^(8k-1)
doubled : (k : ℕ) → 1 ≤ k → 2 ^ (8 * k) ≡ 2 ^ (8 * k - 1) + 2 ^ (8 * k - 1)
doubled k p =
    let e : 8 * k ≡ suc (8 * k - 1) = omega arith in
    ap (λ (m : ℕ). 2 ^ m) e ∙ two-pow-succ (8 * k - 1)

-- and 256^k
pub bytes_power : (k : ℕ) → 2 ^ (8 * k) ≡ 256 ^ k
bytes_power zero = refl
bytes_power (suc k) =
    let e : 8 * suc k ≡ 8 + 8 * k = omega arith in
    rw (e, pow-add 2 8 (8 * k), bytes_power k, pow-succ' 256 k)

-- all that the proofs use of a window
pub record Window (k : ℕ) : Type 0 where
  pub low : 1 ≤ k
  pub high : k ≤ 4
  pub is : window_of k ≡ 2 ^ (8 * k)
  pub twice : window_of k ≡ 2 ^ (8 * k - 1) + 2 ^ (8 * k - 1)
  pub least : 128 ≤ 2 ^ (8 * k - 1)
  pub most : window_of k ≤ 2 ^ 32
  -- 2^62 is so many windows
  pub whole : 2 ^ (62 - 8 * k) * window_of k ≡ 2 ^ 62

pub window_made : (k : ℕ) → 1 ≤ k → k ≤ 4 → Window k
window_made k a b =
    let is = window_is k a b in
    let e : 62 - 8 * k + 8 * k ≡ 62 = omega arith in
    record {
      low = a;
      high = b;
      is = is;
      twice = is ∙ doubled k a;
      least = pow_mono {i = 7} {j = 8 * k - 1} (omega arith);
      most = rw is (pow_mono {i = 8 * k} {j = 32} (omega arith));
      whole = rw is (sym (pow-add 2 (62 - 8 * k) (8 * k)) ∙ ap (λ (m : ℕ). 2 ^ m) e);
    }

-- a length with any value in its window is one of the four
pub window_some : (k : ℕ) → 0 < window_of k → Window k
window_some k p = ⊎_elim (λ a. ⊎_elim (λ b. window_made k a b) (λ b. empty (window_high k b)) (le? k 4)) (λ a. empty (window_low k a)) (le? 1 k)
  where
    empty : window_of k ≡ 0 → Window k
    empty e = absurd (omega arith)

-- what the rule of a cut number says
pub record CutRule (c : CutNumber) : Type 0 where
  pub window : Window c.0
  pub value : c.1 < window_of c.0

pub cut_rule : (c : CutNumber) → is_cut c ≡ true → CutRule c
unfolding is_cut
cut_rule c e =
    let v : c.1 < window_of c.0 = ltb-true _ _ e in
    record { window = window_some c.0 (omega arith); value = v }

-- and how it is tested: no value past the window
no_more : (v w : ℕ) → 0 < w → eqb (v / w) 0 ≡ ltb v w
no_more v w p =
    ⊎_elim
    (λ a. ne_eqb (v / w) 0 (λ z. absurd (omega (arith, a, small z))) ∙ sym (le-ltb v w a))
    (λ a. eq-eqb (v / w) 0 (div-eq_of_lt a) ∙ sym (lt-ltb v w a))
    (le? w v)
  where
    small : v / w ≡ 0 → v < w
    small z =
        let e : v / w * w + v % w ≡ v = div-add-mod' v w in
        let f : 0 * w + v % w ≡ v = rw z at e in
        omega (arith, f, mod-lt v p)

pub cut_test : (c : CutNumber) → 1 ≤ c.0 → c.0 ≤ 4 → eqb (c.1 / 2 ^ (8 * c.0)) 0 ≡ is_cut c
unfolding is_cut
cut_test c p q =
    let w = window_made c.0 p q in
    rw w.is (no_more c.1 (2 ^ (8 * c.0)) (omega (arith, w)))

-- ---- 17.1: the fewest of the lengths from low on with more than t values

pub record Fit (low k t : ℕ) : Type 0 where
  pub from : low ≤ k
  pub high : k ≤ 4
  pub above : t < 2 ^ (8 * k)
  pub fewest : (j : ℕ) → low ≤ j → j < k → 2 ^ (8 * j) ≤ t

fit : (m low t : ℕ) → m + low ≤ 5 → (first_fit m low t ≡ 0 → ⊥) → Fit low (first_fit m low t) t
fit zero low t p some = absurd (some refl)
fit (suc m) low t p some = go (ltb t (2 ^ (8 * low))) refl (fit m (suc low) t (omega arith))
  where
    go : (b : Bool) → ltb t (2 ^ (8 * low)) ≡ b → ((first_fit m (suc low) t ≡ 0 → ⊥) → Fit (suc low) (first_fit m (suc low) t) t)
        → Fit low (first_fit (suc m) low t) t
    go true e below = rw e (record { from = omega arith; high = omega arith; above = ltb-true _ _ e; fewest = λ j x y. absurd (omega arith) })
    go false e below =
        let r = below (rw e at some) in
        rw e
        (record {
          from = omega arith;
          high = r.high;
          above = r.above;
          fewest =
              λ j x y.
              ⊎_elim
              (λ z. omega (arith, pow_mono {i = 8 * j} {j = 8 * low} (omega arith), ltb-false t (2 ^ (8 * low)) e))
              (λ z. r.fewest j z y)
              (le? j low);
        })

-- a test of one length, and where it does not have more values, the next
module _ (k t : ℕ) (h : k < 5) where
  first_next : first_fit (5 - k) k t ≡ (if ltb t (2 ^ (8 * k)) then k else first_fit (5 - (k + 1)) (k + 1) t)
  first_next = let e : 5 - k ≡ suc (5 - (k + 1)) = omega arith in rw (e, add-one)

  pub first_here : t < 2 ^ (8 * k) → first_fit (5 - k) k t ≡ k
  first_here p = first_next ∙ simp (lt-ltb _ _ p)

  pub first_on : 2 ^ (8 * k) ≤ t → first_fit (5 - k) k t ≡ first_fit (5 - (k + 1)) (k + 1) t
  first_on p = first_next ∙ simp (le-ltb _ _ p)

-- a length that was found, or none
pub fitting_some : (k : ℕ) → 1 ≤ k → fitting k ≡ Some k
fitting_some k p = simp (ne_eqb k 0 (λ z. omega arith))

pub fitting_is : (k t : ℕ) → Some k ≡ fitting t → (k ≡ t) × (k ≡ 0 → ⊥)
fitting_is k t e = go (eqb t 0) refl
  where
    go : (b : Bool) → eqb t 0 ≡ b → (k ≡ t) × (k ≡ 0 → ⊥)
    go true z = let q : Some k ≡ None = e ∙ simp z in absurd cc
    go false z = let q : Some k ≡ Some t = e ∙ simp z in let s : k ≡ t = cc in (s, λ x. eqb-false t 0 z (sym s ∙ x))

pub bytes_fit : (t : ℕ) → (bytes_for t ≡ 0 → ⊥) → Fit 1 (bytes_for t) t
unfolding bytes_for
bytes_fit t some = fit 4 1 t (omega arith) some

-- and it is found: a length of the four that is the fewest for t
first_fit_is : (m low k t : ℕ) → low ≤ k → k < m + low → t < 2 ^ (8 * k) → ((j : ℕ) → low ≤ j → j < k → 2 ^ (8 * j) ≤ t) → first_fit m low t ≡ k
first_fit_is zero low k t a b up down = absurd (omega arith)
first_fit_is (suc m) low k t a b up down =
    ⊎_elim here (λ p. there p (first_fit_is m (suc low) k t p (omega arith) up (λ j x y. down j (omega arith) y))) (le? k low)
  where
    here : k ≤ low → first_fit (suc m) low t ≡ k
    here p =
        let e : k ≡ low = omega arith in
        let h : t < 2 ^ (8 * low) = rw e at up in
        simp (lt-ltb t (2 ^ (8 * low)) h) (omega arith)

    there : low < k → first_fit m (suc low) t ≡ k → first_fit (suc m) low t ≡ k
    there p later = simp (le-ltb t (2 ^ (8 * low)) (down low (omega arith) p)) later

pub bytes_are : (k t : ℕ) → 1 ≤ k → k ≤ 4 → t < 2 ^ (8 * k) → ((j : ℕ) → 1 ≤ j → j < k → 2 ^ (8 * j) ≤ t) → bytes_for t ≡ k
unfolding bytes_for
bytes_are k t a b up down = first_fit_is 4 1 k t a (omega arith) up down

-- below 2^32 there is one
first_fit_some : (m low t : ℕ) → 1 ≤ low → t < 2 ^ (8 * (m + low)) → first_fit (suc m) low t ≡ 0 → ⊥
first_fit_some zero low t p up z =
    let e : 8 * (0 + low) ≡ 8 * low = omega arith in
    let h : t < 2 ^ (8 * low) = rw e at up in
    omega (arith, simp (lt-ltb t (2 ^ (8 * low)) h) at z)
first_fit_some (suc m) low t p up z =
    let e : 8 * (suc m + low) ≡ 8 * (m + suc low) = omega arith in
    ⊎_elim
    (λ a. first_fit_some m (suc low) t (omega arith) (rw e at up) (simp (le-ltb t (2 ^ (8 * low)) a) at z))
    (λ a. omega (arith, simp (lt-ltb t (2 ^ (8 * low)) a) at z))
    (le? (2 ^ (8 * low)) t)

pub bytes_some : (t : ℕ) → t < 2 ^ 32 → bytes_for t ≡ 0 → ⊥
unfolding bytes_for
bytes_some t p z = first_fit_some 3 1 t (omega arith) p z
