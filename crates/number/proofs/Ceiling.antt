-- The ceiling: what is read below 2^62 and at it; and the Rust's rule beside A.3.
use Prim.Native.Nat.{ℕ, ◌+◌, ◌-◌, ◌*◌, ◌/◌, ◌%◌, ◌^◌, ◌≤◌, ◌<◌}
use mathlib.Core.Path.{◌≡◌, refl, sym, ◌∙◌}
use mathlib.Core.Bool.{Bool, true, false}
use mathlib.Core.Logic.{◌↔◌, ⊎_elim}
use native.Mathlib.Nat.{mod-lt, div-add-mod', mul-le-mul_right}
use native.Mathlib.Omega.{arith}
use borrow.Author.Tests.{le-leb, lt-leb, lt-ltb, le-ltb}
use Rattle.coding.specs.Words.{no, ok}
use Rattle.shared.specs.declared.kinds.CutNumber.{CutNumber}
use Rattle.number.specs.Cutting.{window_of, is_cut}
use Rattle.number.specs.Expanding.{candidate, nearest_to, decode_a3, expanded}
use Rattle.number.specs.Ends.{Ends, receive_end, refused, accept_by}
use Rattle.number.proofs.Windows.{le?, window_some, CutRule, cut_rule}
use Rattle.number.proofs.Readings.{a3_cases, apart, below_or, expanded_out, expanded_in}
use Rattle.number.proofs.Calls.{accept_14, accept_high}

-- ---- what a reading gives is what A.3 gives

pub expanded_is : (c : CutNumber) (e n : ℕ) → e ≤ 2 ^ 62 → expanded c e ≡ ok n → CutRule c × (decode_a3 (window_of c.0) c.1 e ≡ n)
expanded_is c e n top r = go (is_cut c) refl
  where
    go : (b : Bool) → is_cut c ≡ b → CutRule c × (decode_a3 (window_of c.0) c.1 e ≡ n)
    go true i =
        let q : ok (decode_a3 (window_of c.0) c.1 e) ≡ ok n = expanded_in c e i top ∙ r in
        (cut_rule c i, cc)
    go false i =
        let q : no 14 ≡ ok n = expanded_out c e i ∙ r in
        let z : ◌≡◌ {A = ℕ} 0 1 = cc in
        absurd (omega arith)

-- ---- an expected number below 2^62

module _ (k v e : ℕ) (below : v < window_of k) where
  candidate_below : e < 2 ^ 62 → candidate (window_of k) v e < 2 ^ 62
  candidate_below top =
      let w : ℕ = window_of k in
      let win = window_some k (omega arith) in
      let of_e = div-add-mod' e w in
      ⊎_elim
      (λ y. omega (arith, win.whole, of_e))
      (λ y. absurd (omega (arith, win.whole, of_e)))
      (below_or w (e / w) (2 ^ (62 - 8 * k)))

  a3_below : e < 2 ^ 62 → decode_a3 (window_of k) v e < 2 ^ 62
  a3_below top =
      let c = candidate_below top in
      a3_cases (window_of k) v e
      (λ a t q. omega (arith, q))
      (λ a t q. omega (arith, c, q))
      (λ a b q. omega (arith, c, q))
      (λ b d q. omega (arith, c, q))
      (λ b d q. omega (arith, c, q))

-- where the expected number is below 2^62, so is what is read: a number that a packet can have
pub read_below : (c : CutNumber) (e n : ℕ) → e < 2 ^ 62 → expanded c e ≡ ok n → n < 2 ^ 62
read_below c e n top r =
    let is = expanded_is c e n (omega arith) r in
    omega (arith, is.1, a3_below c.0 c.1 e is.0.value top)

-- ---- the expected number is 2^62: the largest number there is was accepted

-- then what is read is 2^62 or more exactly for the values up to half the window
pub read_at : (c : CutNumber) (n : ℕ) → expanded c (2 ^ 62) ≡ ok n → (2 ^ 62 ≤ n) ↔ (c.1 ≤ window_of c.0 / 2)
read_at c n r =
    let is = expanded_is c (2 ^ 62) n (omega arith) r in
    let win = is.0.window in
    let w : ℕ = window_of c.0 in
    let of_e = div-add-mod' (2 ^ 62) w in
    let rest : 2 ^ 62 % w < w = mod-lt (2 ^ 62) (omega (arith, win)) in
    let even : 2 ^ 62 / w * w ≡ 2 ^ 62 = ⊎_elim
    (λ y. absurd (omega (arith, win.whole, of_e, rest)))
    (λ y. omega (arith, win.whole, of_e, rest))
    (below_or w (2 ^ 62 / w) (2 ^ (62 - 8 * c.0))) in
    a3_cases w c.1 (2 ^ 62)
    (λ a t q. absurd (omega (arith, win, even)))
    (λ a t q. absurd (omega (arith, win, even)))
    (λ a b q. (λ x. omega (arith, win, even, is, q), λ x. omega (arith, win, even, is, q)))
    (λ b d q. (λ x. omega (arith, win, even, is, q), λ x. omega (arith, win, even, is, q)))
    (λ b d q. absurd (omega (arith, win, even)))

-- and accepting it is refused 14, the ends as they were; whatever the ends
pub not_accepted : (e : Ends) (n : ℕ) → 2 ^ 62 ≤ n → accept_by e n ≡ refused 14 e
not_accepted e n high = go (receive_end e) refl
  where
    go : (t : Bool) → receive_end e ≡ t → accept_by e n ≡ refused 14 e
    go true t = sym (accept_high e n t (omega arith))
    go false t = sym (accept_14 e n t)

-- ---- the Rust's rule and A.3: one, except where adding the window reaches 2^62

module _ (w v e : ℕ) where
  -- adding the window reaches 2^62
  abbrev pub Ceiling : Type 0
  Ceiling = (candidate w v e + w / 2 ≤ e) × (2 ^ 62 ≤ candidate w v e + w)

  module _ (even : w ≡ w / 2 + w / 2) (below : v < w) where
    not_whole : e + w / 2 < candidate w v e → candidate w v e ≤ w → candidate w v e < w
    not_whole b d =
        let q = div-add-mod' e w in
        let r : e % w < w = mod-lt e (omega arith) in
        ⊎_elim
        (λ z. omega (arith, mul-le-mul_right w z))
        (λ z. omega (arith, apart w 0 (e / w) z))
        (le? (e / w) 0)

    pub a3_agrees : (Ceiling → ⊥) → nearest_to w v e ≡ decode_a3 w v e
    unfolding nearest_to
    a3_agrees room =
        a3_cases w v e
        (λ a t q. let n : nearest_to w v e ≡ c + w = simp (le-leb (c + w / 2) e a) in n ∙ q)
        (λ a t q. absurd (room (a, t)))
        (λ a b q. let n : nearest_to w v e ≡ c = simp (lt-leb (c + w / 2) e a, le-ltb (e + w / 2) c b) in n ∙ q)
        (λ b d q. let n : nearest_to w v e ≡ c - w = simp (lt-leb (c + w / 2) e (omega arith), lt-ltb (e + w / 2) c b, lt-ltb w c (more b d)) in n ∙ q)
        (λ b d q. let n : nearest_to w v e ≡ c = simp (lt-leb (c + w / 2) e (omega arith), lt-ltb (e + w / 2) c b, le-ltb w c (omega arith)) in n ∙ q)
      where
        c : ℕ
        c = candidate w v e

        more : e + w / 2 < c → w ≤ c → w < c
        more b d = ⊎_elim (λ x. absurd (omega (arith, not_whole b x))) (λ x. x) (le? c w)

  -- there the Rust adds the window, and A.3 leaves the candidate as it is
  pub a3_differs : Ceiling → (nearest_to w v e ≡ candidate w v e + w) × (decode_a3 w v e ≡ candidate w v e)
  unfolding nearest_to decode_a3
  a3_differs at =
      let c = candidate w v e in (
        simp (le-leb (c + w / 2) e at.0),
        simp (le-leb (c + w / 2) e at.0, le-ltb (c + w) (2 ^ 62) at.1, le-ltb (e + w / 2) c (omega arith)),
      )

-- the same at each of the four lengths
module _ (k v e : ℕ) (below : v < window_of k) where
  -- the two rules give one number exactly if the ceiling is not reached
  pub a3_exactly : (nearest_to (window_of k) v e ≡ decode_a3 (window_of k) v e) ↔ (Ceiling (window_of k) v e → ⊥)
  a3_exactly =
      let win = window_some k (omega arith) in (
        λ same at. let d = a3_differs (window_of k) v e at in omega (arith, win, d, same),
        a3_agrees (window_of k) v e (omega (arith, win.twice)) below,
      )

  -- and it is reached exactly where the expected number is below 2^62 and the Rust reads one that no packet can have
  pub past_exactly : e ≤ 2 ^ 62 → Ceiling (window_of k) v e ↔ ((e < 2 ^ 62) × (2 ^ 62 ≤ nearest_to (window_of k) v e))
  past_exactly end = (forth, back)
    where
      w : ℕ
      w = window_of k

      forth : Ceiling w v e → (e < 2 ^ 62) × (2 ^ 62 ≤ nearest_to w v e)
      forth at =
          let win = window_some k (omega arith) in
          let of_e = div-add-mod' e w in
          let rest : e % w < w = mod-lt e (omega arith) in
          ⊎_elim
          (λ y. (omega (arith, win.whole, of_e, rest), omega (arith, a3_differs w v e at)))
          (λ y. absurd (omega (arith, win, of_e, at)))
          (below_or w (e / w) (2 ^ (62 - 8 * k)))

      back : (e < 2 ^ 62) × (2 ^ 62 ≤ nearest_to w v e) → Ceiling w v e
      back (top, past) =
          ⊎_elim
          (λ a. ⊎_elim (λ f. (a, f)) (λ f. never (λ x. omega (arith, x))) (le? (2 ^ 62) (candidate w v e + w)))
          (λ a. never (λ x. omega (arith, x)))
          (le? (candidate w v e + w / 2) e)
        where
          never : (Ceiling w v e → ⊥) → Ceiling w v e
          never no-ceiling = absurd (omega (arith, past, a3_below k v e below top, a3_exactly.1 no-ceiling))

-- document 01's example: expected 2^62 - 1 with one byte 00
pub record CeilingExample : Type 0 where
  pub rust : nearest_to (window_of 1) 0 (2 ^ 62 - 1) ≡ 2 ^ 62
  pub a3 : decode_a3 (window_of 1) 0 (2 ^ 62 - 1) ≡ 2 ^ 62 - 256

pub ceiling_example : CeilingExample
unfolding nearest_to decode_a3 window_of
ceiling_example = record { rust = refl; a3 = refl }
