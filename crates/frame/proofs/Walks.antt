-- Laws of the walk: repeating the step is the walk, and its turns are enough.
use Rattle.std.specs.Prelude.{if◌then◌else◌}
use mathlib.Core.Path.{◌≡◌, refl, sym, ap, ◌∙◌}
use mathlib.Core.List.{List, [], ◌∷◌}
use mathlib.Core.Bool.{Bool, true, false}
use mathlib.Core.Option.{none}
use Prim.Native.Nat.{ℕ, zero, suc, ◌-◌, ◌≤◌, ◌<◌}
use native.Mathlib.Omega.{arith}
use lib.ListN.{length}
use lib.Dec.{ltb, leb, eqb}
use borrow.Author.Tests.{ltb-false, leb-true, leb-false, eqb-false, le-ltb, le-leb, lt-leb, ne_eqb}
use Rattle.frame.specs.Format.{Said}
use Rattle.frame.specs.Table.{Row, FrameOutcome, taken, refused, frame_at}
use Rattle.frame.specs.Walk.{onwards, walk_from, walk, frame, end, step_at, stepped, repeating}
use Rattle.frame.proofs.Inside.{Past, frame_past}

-- after a frame the two go on alike if they are alike from every place past this one on
on_alike : (s : List ℕ) (at : ℕ) (o : FrameOutcome) → Past s at o → (f g : ℕ → List (ℕ × FrameOutcome)) → ((n : ℕ) → at < n → f n ≡ g n) → onwards o f ≡ onwards o g
unfolding onwards
on_alike s at (taken t fr n) p f g h = h n p.0.0
on_alike s at (refused k start t) p f g h = refl

module _ (rows : List Row) (s : List ℕ) where
  walk_end : (n at : ℕ) → length s ≤ at → walk_from rows s n at ≡ []
  unfolding walk_from
  walk_end zero at h = refl
  walk_end (suc n) at h = simp (le-leb _ _ h)

  walk_one : (n at : ℕ) → at < length s → walk_from rows s (suc n) at ≡ (at, frame_at rows s at) ∷ onwards (frame_at rows s at) (walk_from rows s n)
  unfolding walk_from
  walk_one n at h = simp (lt-leb _ _ h)

  -- a frame that was read is the walk's next, and the walk goes on past it
  pub walk_taken : (turns at t n : ℕ) (f : Said) → frame_at rows s at ≡ taken t f n → walk_from rows s (suc turns) at ≡ (at, taken t f n) ∷ walk_from rows s turns n
  unfolding onwards
  walk_taken turns at t n f e = let i = rw e at (frame_past rows s at) in rw e at (walk_one turns at (omega arith))

  -- more turns than bytes are left say nothing more
  pub enough : (n m at : ℕ) → length s - at ≤ n → n ≤ m → walk_from rows s m at ≡ walk_from rows s n at
  enough zero m at h k = walk_end m at (omega arith) ∙ sym (walk_end zero at (omega arith))
  enough (suc n) zero at h k = absurd (omega arith)
  enough (suc n) (suc m) at h k = go (leb (length s) at) refl (λ p q. enough n m p (omega arith) (omega arith))
    where
      go : (t : Bool) → leb (length s) at ≡ t → ((p : ℕ) → at < p → walk_from rows s m p ≡ walk_from rows s n p)
          → walk_from rows s (suc m) at ≡ walk_from rows s (suc n) at
      go true e ih = walk_end (suc m) at (leb-true _ _ e) ∙ sym (walk_end (suc n) at (leb-true _ _ e))
      go false e ih =
          let l : at < length s = leb-false _ _ e in
          walk_one m at l
          ∙ ap (λ (r : List (ℕ × FrameOutcome)). (at, frame_at rows s at) ∷ r)
          (on_alike s at (frame_at rows s at) (frame_past rows s at) (walk_from rows s m) (walk_from rows s n) ih)
          ∙ sym (walk_one n at l)

  module _ (some : 0 < length s) (fits : length s ≤ 65527) where
    step_end : (at : ℕ) → length s ≤ at → step_at rows s at ≡ end
    unfolding step_at
    step_end at h = let ne : length s ≡ 0 → ⊥ = λ z. omega arith in simp (le-ltb _ _ fits, ne_eqb _ _ ne, le-leb _ _ h)

    step_one : (at : ℕ) → at < length s → step_at rows s at ≡ frame (frame_at rows s at)
    unfolding step_at
    step_one at h = let ne : length s ≡ 0 → ⊥ = λ z. omega arith in simp (le-ltb _ _ fits, ne_eqb _ _ ne, lt-leb _ _ h)

    repeat_from : (n at : ℕ) → repeating rows n s at ≡ walk_from rows s n at
    unfolding repeating walk_from stepped
    repeat_from zero at = refl
    repeat_from (suc n) at = go (leb (length s) at) refl (repeat_from n)
      where
        go : (t : Bool) → leb (length s) at ≡ t → ((p : ℕ) → repeating rows n s p ≡ walk_from rows s n p)
            → repeating rows (suc n) s at ≡ walk_from rows s (suc n) at
        go true e ih = rw (step_end at (leb-true _ _ e)) (sym (walk_end (suc n) at (leb-true _ _ e)))
        go false e ih =
            rw (step_one at (leb-false _ _ e))
            (ap (λ (r : List (ℕ × FrameOutcome)). (at, frame_at rows s at) ∷ r)
            (on_alike s at (frame_at rows s at) (frame_past rows s at) (repeating rows n s) (walk_from rows s n) (λ p q. ih p))
            ∙ sym (walk_one n at (leb-false _ _ e)))

  -- a frame that was read is what the step hands out
  pub step_taken : (at t n : ℕ) (f : Said) → length s ≤ 65527 → frame_at rows s at ≡ taken t f n → step_at rows s at ≡ frame (taken t f n)
  step_taken at t n f fits e = let i = rw e at (frame_past rows s at) in rw e at (step_one (omega arith) fits at (omega arith))

  -- the step repeated from place 0 on, as often as the payload has bytes or more, is the walk
  pub repeated : (n : ℕ) → length s ≤ n → repeating rows (suc n) s 0 ≡ walk rows s
  unfolding walk repeating stepped step_at onwards
  repeated n h = go (ltb 65527 (length s)) (eqb (length s) 0) refl refl
    where
      go : (a b : Bool) → ltb 65527 (length s) ≡ a → eqb (length s) 0 ≡ b
          → repeating rows (suc n) s 0 ≡ (if a then (0, refused 14 0 none) ∷ [] else if b then (0, refused 13 0 none) ∷ [] else walk_from rows s (length s) 0)
      go true b p q = simp p
      go false true p q = simp (p, q)
      go false false p q =
          repeat_from (omega (arith, eqb-false (length s) 0 q)) (ltb-false 65527 (length s) p) (suc n) 0 ∙ enough (length s) (suc n) 0 (omega arith) (omega arith)
