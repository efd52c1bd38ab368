-- The table looked up at a number that is none of a `match`'s single numbers: only the rows that those do not cover are left.
use Prim.Native.Nat.{ℕ, zero, suc, ◌+◌, ◌≤◌}
use native.Mathlib.Omega.{arith}
use mathlib.Core.List.{List, [], ◌∷◌}
use mathlib.Core.Bool.{Bool, true, false, cond}
use mathlib.Core.Path.{◌≡◌, refl, sym, ◌∙◌}
use lib.Dec.{leb, eqb}
use borrow.Author.Tests.{leb-true, eqb-true}
use Rattle.frame.specs.Table.{Row, has, look}

-- t is none of ks, and A holds besides: what a `match` on t says in its other arms
abbrev pub Apart : Type 0 → List ℕ → ℕ → Type 0
Apart A [] t = A
Apart A (k ∷ ks) t = Apart (A × (t ≡ k → ⊥)) ks t

abbrev pub mem : ℕ → List ℕ → Bool
mem k [] = false
mem k (x ∷ xs) = cond (eqb k x) true (mem k xs)

abbrev pub run : ℕ → ℕ → List ℕ → Bool
run m zero ks = true
run m (suc n) ks = cond (mem (m + n) ks) (run m n ks) false

first : (A : Type 0) (ks : List ℕ) (t : ℕ) → Apart A ks t → A
first A [] t r = r
first A (k ∷ ks) t r = (first (A × (t ≡ k → ⊥)) ks t r).0

ne : (A : Type 0) (ks : List ℕ) (t : ℕ) → Apart A ks t → (k : ℕ) → mem k ks ≡ true → t ≡ k → ⊥
ne A [] t r k m e = cc
ne A (x ∷ ks) t r k m e = go (eqb k x) refl m (λ i. ne (A × (t ≡ x → ⊥)) ks t r k i e)
  where
    go : (b : Bool) → eqb k x ≡ b → cond b true (mem k ks) ≡ true → (mem k ks ≡ true → ⊥) → ⊥
    go true q m ih = (first (A × (t ≡ x → ⊥)) ks t r).1 (e ∙ eqb-true k x q)
    go false q m ih = ih m

-- a row of one number or two that are all among ks
abbrev pub covered : List ℕ → Row → Bool
covered ks r = cond (mem r.first ks) (cond (mem r.last ks) (leb r.last (r.first + 1)) false) false

abbrev pub others : List ℕ → List Row → List Row
others ks [] = []
others ks (r ∷ rs) = cond (covered ks r) (others ks rs) (r ∷ others ks rs)

module _ (ks : List ℕ) (t : ℕ) (apart : Apart Unit ks t) where
  apart_row : (r : Row) → covered ks r ≡ true → has t r ≡ false
  apart_row r c = go (mem r.first ks) (mem r.last ks) (leb r.last (r.first + 1)) (leb r.first t) (leb t r.last) refl refl refl refl refl c
    where
      go : (a b l p q : Bool) → mem r.first ks ≡ a → mem r.last ks ≡ b → leb r.last (r.first + 1) ≡ l → leb r.first t ≡ p → leb t r.last ≡ q
          → cond a (cond b l false) false ≡ true → cond p q false ≡ false
      go a b l false q ea eb el ep eq h = refl
      go a b l true false ea eb el ep eq h = refl
      go true true true true true ea eb el ep eq h =
          let n = ne Unit ks t apart r.first ea in
          let m = ne Unit ks t apart r.last eb in
          let i : r.first ≤ t = leb-true _ _ ep in
          let j : t ≤ r.last = leb-true _ _ eq in
          let k : r.last ≤ r.first + 1 = leb-true _ _ el in
          absurd (omega arith)
      go true true false true true ea eb el ep eq h = sym h
      go true false l true true ea eb el ep eq h = sym h
      go false b l true true ea eb el ep eq h = sym h

  -- only the rows that ks does not cover are left
  pub look_others : (rs : List Row) → look rs t ≡ look (others ks rs) t
  look_others [] = refl
  look_others (r ∷ rs) = go (covered ks r) refl (look_others rs)
    where
      go : (b : Bool) → covered ks r ≡ b → look rs t ≡ look (others ks rs) t → look (r ∷ rs) t ≡ look (cond b (others ks rs) (r ∷ others ks rs)) t
      go true e ih = rw (apart_row r e) ih
      go false e ih = rw ih

  -- where ks has every number from m to n, a number at least m is at least n
  pub past : (m n : ℕ) → m ≤ t → run m n ks ≡ true → m + n ≤ t
  past m zero h e = omega arith
  past m (suc n) h e = go (mem (m + n) ks) refl e (past m n h)
    where
      go : (b : Bool) → mem (m + n) ks ≡ b → cond b (run m n ks) false ≡ true → (run m n ks ≡ true → m + n ≤ t) → m + suc n ≤ t
      go true q e ih = let i = ih e in let j = ne Unit ks t apart (m + n) q in omega arith
      go false q e ih = cc
