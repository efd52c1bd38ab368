-- The reading of a cut number, over any even window, and exactly when it gives the number that was cut; the cases of a reading.
use Prim.Native.Nat.{ℕ, suc, ◌+◌, ◌-◌, ◌*◌, ◌/◌, ◌%◌, ◌^◌, ◌≤◌, ◌<◌}
use mathlib.Core.Path.{◌≡◌, refl, sym, ap, ◌∙◌}
use mathlib.Core.Bool.{Bool, true, false}
use mathlib.Core.Logic.{◌↔◌, ◌⊎◌, inl, inr, ⊎_elim}
use native.Mathlib.Nat.{mod-lt, div-add-mod', mul-le-mul_right}
use native.Mathlib.Omega.{arith}
use borrow.Author.Tests.{le-leb, lt-leb, lt-ltb, le-ltb}
use Rattle.coding.specs.Words.{no, ok}
use Rattle.shared.specs.declared.kinds.CutNumber.{CutNumber}
use Rattle.number.specs.Cutting.{window_of, is_cut}
use Rattle.number.specs.Expanding.{candidate, decode_a3, expanded}
use Rattle.number.proofs.Windows.{le?}

-- ---- the cases of A.3

module _ (w v e : ℕ) where
  pub a3_next : candidate w v e + w / 2 ≤ e → candidate w v e + w < 2 ^ 62 → candidate w v e + w ≡ decode_a3 w v e
  unfolding decode_a3
  a3_next a t = simp (le-leb _ _ a, lt-ltb _ _ t)

  pub a3_top : candidate w v e + w / 2 ≤ e → 2 ^ 62 ≤ candidate w v e + w → candidate w v e ≡ decode_a3 w v e
  unfolding decode_a3
  a3_top a t = simp (le-leb _ _ a, le-ltb _ _ t, le-ltb (e + w / 2) (candidate w v e) (omega arith))

  pub a3_here : e < candidate w v e + w / 2 → candidate w v e ≤ e + w / 2 → candidate w v e ≡ decode_a3 w v e
  unfolding decode_a3
  a3_here a b = simp (lt-leb _ _ a, le-ltb _ _ b)

  pub a3_before : e + w / 2 < candidate w v e → w ≤ candidate w v e → candidate w v e - w ≡ decode_a3 w v e
  unfolding decode_a3
  a3_before b d = simp (lt-leb (candidate w v e + w / 2) e (omega arith), lt-ltb _ _ b, le-leb _ _ d)

  pub a3_first : e + w / 2 < candidate w v e → candidate w v e < w → candidate w v e ≡ decode_a3 w v e
  unfolding decode_a3
  a3_first b d = simp (lt-leb (candidate w v e + w / 2) e (omega arith), lt-ltb _ _ b, lt-leb _ _ d)

  -- these are all: what each of them gives is so
  pub a3_cases : {A : Type 0}
      → (candidate w v e + w / 2 ≤ e → candidate w v e + w < 2 ^ 62 → candidate w v e + w ≡ decode_a3 w v e → A)
      → (candidate w v e + w / 2 ≤ e → 2 ^ 62 ≤ candidate w v e + w → candidate w v e ≡ decode_a3 w v e → A)
      → (e < candidate w v e + w / 2 → candidate w v e ≤ e + w / 2 → candidate w v e ≡ decode_a3 w v e → A)
      → (e + w / 2 < candidate w v e → w ≤ candidate w v e → candidate w v e - w ≡ decode_a3 w v e → A)
      → (e + w / 2 < candidate w v e → candidate w v e < w → candidate w v e ≡ decode_a3 w v e → A)
      → A
  a3_cases next top here before first =
      let c : ℕ = candidate w v e in
      ⊎_elim
      (λ a. ⊎_elim (λ t. top a t (a3_top a t)) (λ t. next a t (a3_next a t)) (le? (2 ^ 62) (c + w)))
      (λ a.
      ⊎_elim
      (λ b. here a b (a3_here a b))
      (λ b. ⊎_elim (λ d. before b d (a3_before b d)) (λ d. first b d (a3_first b d)) (le? w c))
      (le? c (e + w / 2)))
      (le? (c + w / 2) e)

-- ---- multiples of a window

-- two multiples of w are w apart, or more
pub apart : (w a b : ℕ) → a < b → a * w + w ≤ b * w
apart w a b p = omega (arith, mul-le-mul_right w p)

-- and so the one is a window below the other, or not below it
pub below_or : (w a b : ℕ) → (a * w + w ≤ b * w) ⊎ (b * w ≤ a * w)
below_or w a b = ⊎_elim (λ p. inr (mul-le-mul_right w p)) (λ p. inl (apart w a b p)) (le? b a)

-- two multiples of w that are less than 2w apart: the same, or neighbours
near : (w a b : ℕ) → a * w < b * w + (w + w) → b * w < a * w + (w + w) → (a * w ≡ b * w) ⊎ ((a * w ≡ b * w + w) ⊎ (b * w ≡ a * w + w))
near w a b p q =
    ⊎_elim
    (λ x. ⊎_elim (λ y. inl (ap (λ (m : ℕ). m * w) (omega arith))) (λ y. inr (inr (next a b q y))) (le? b a))
    (λ x. inr (inl (next b a p x)))
    (le? a b)
  where
    next : (c d : ℕ) → d * w < c * w + (w + w) → c < d → d * w ≡ c * w + w
    next c d r s = ⊎_elim (λ y. omega (arith, apart w c d s, mul-le-mul_right w y)) (λ y. absurd (omega (arith, apart w (suc c) d y))) (le? d (suc c))

-- ---- reading n's last bytes with e expected, over any even window w = h + h

-- e is less than half a window past n, or both are in the last window below 2^62
abbrev pub Readable : ℕ → ℕ → ℕ → ℕ → Type 0
Readable w h n e = (e < n + h) ⊎ ((e < 2 ^ 62) × (2 ^ 62 ≤ n + w))

module _ (w h n e : ℕ) (tw : w ≡ h + h) (pos : 0 < h) where
  pub record Parts : Type 0 where
    pub of_n : n / w * w + n % w ≡ n
    pub of_e : e / w * w + e % w ≡ e
    pub rest_n : n % w < w
    pub rest_e : e % w < w
    pub half : w / 2 ≡ h

  parts : Parts
  parts =
      record {
        of_n = div-add-mod' n w;
        of_e = div-add-mod' e w;
        rest_n = mod-lt n (omega arith);
        rest_e = mod-lt e (omega arith);
        half = omega arith;
      }

  -- near the expected number, n is read
  pub read_back : n < 2 ^ 62 → n ≤ e + h → e < n + h → decode_a3 w (n % w) e ≡ n
  read_back top up lo = ⊎_elim same (⊎_elim below above) (near w (n / w) (e / w) (omega (arith, parts)) (omega (arith, parts)))
    where
      v : ℕ
      v = n % w

      same : n / w * w ≡ e / w * w → decode_a3 w v e ≡ n
      same q = sym (a3_here w v e (omega (arith, parts)) (omega (arith, parts))) ∙ omega (arith, parts)

      below : n / w * w ≡ e / w * w + w → decode_a3 w v e ≡ n
      below q = sym (a3_next w v e (omega (arith, parts)) (omega (arith, parts))) ∙ omega (arith, parts)

      above : e / w * w ≡ n / w * w + w → decode_a3 w v e ≡ n
      above q = sym (a3_before w v e (omega (arith, parts)) (omega (arith, parts))) ∙ omega (arith, parts)

  -- 2^62 is so many windows
  module _ (m : ℕ) (whole : m * w ≡ 2 ^ 62) where
    -- a number of the last of them
    in_last : (x : ℕ) → x < 2 ^ 62 → 2 ^ 62 ≤ x + w → x / w * w + w ≡ 2 ^ 62
    in_last x top last =
        let of-x = div-add-mod' x w in
        let rest-x : x % w < w = mod-lt x (omega arith) in
        ⊎_elim
        (λ y. ⊎_elim (λ z. absurd (omega (arith, of-x))) (λ z. omega (arith, of-x)) (below_or w (suc (x / w)) m))
        (λ y. absurd (omega (arith, of-x)))
        (below_or w (x / w) m)

    -- half a window past n, what is read is n exactly if both are in the last window
    pub overtaken : e ≤ 2 ^ 62 → n < 2 ^ 62 → n + h ≤ e → (decode_a3 w (n % w) e ≡ n) ↔ ((e < 2 ^ 62) × (2 ^ 62 ≤ n + w))
    overtaken end top far = (forth, back)
      where
        v : ℕ
        v = n % w

        back : (e < 2 ^ 62) × (2 ^ 62 ≤ n + w) → decode_a3 w v e ≡ n
        back (high, last) =
            let a = in_last n top last in
            let b = in_last e high (omega arith) in
            sym (a3_top w v e (omega (arith, parts, a, b)) (omega (arith, parts, a, b))) ∙ omega (arith, parts, a, b)

        forth : decode_a3 w v e ≡ n → (e < 2 ^ 62) × (2 ^ 62 ≤ n + w)
        forth r =
            a3_cases w v e
            (λ a t q. absurd (omega (arith, parts)))
            (λ a t q. ⊎_elim (λ y. (omega (arith, parts), omega (arith, parts))) (λ y. absurd (omega (arith, parts))) (below_or w (e / w) m))
            (λ a b q. absurd (omega (arith, parts)))
            (λ b d q. absurd (omega (arith, parts)))
            (λ b d q. absurd (omega (arith, parts)))

    -- so n is read exactly if it is readable
    pub read_exactly : n < 2 ^ 62 → e ≤ 2 ^ 62 → n ≤ e + h → (decode_a3 w (n % w) e ≡ n) ↔ Readable w h n e
    read_exactly top end up =
        ⊎_elim
        (λ far. let o = overtaken end top far in (λ r. inr (o.0 r), ⊎_elim (λ lo. absurd (omega arith)) o.1))
        (λ lo. (λ r. inl lo, λ x. read_back top up lo))
        (le? (n + h) e)

-- ---- the cases of a reading

module _ (c : CutNumber) (e : ℕ) where
  pub expanded_out : is_cut c ≡ false → no 14 ≡ expanded c e
  unfolding expanded
  expanded_out i = rw i

  pub expanded_high : is_cut c ≡ true → 2 ^ 62 < e → no 14 ≡ expanded c e
  unfolding expanded
  expanded_high i p = simp (i, lt-ltb _ _ p)

  pub expanded_in : is_cut c ≡ true → e ≤ 2 ^ 62 → ok (decode_a3 (window_of c.0) c.1 e) ≡ expanded c e
  unfolding expanded
  expanded_in i p = simp (i, le-ltb _ _ p)

  -- whatever the cut number
  pub expanded_past : 2 ^ 62 < e → no 14 ≡ expanded c e
  expanded_past p = go (is_cut c) refl
    where
      go : (b : Bool) → is_cut c ≡ b → no 14 ≡ expanded c e
      go true i = expanded_high i p
      go false i = expanded_out i
