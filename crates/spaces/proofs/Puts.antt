-- One of three: what was put into a space is found there, and the others are as they were.
use Prim.Native.Nat.{ℕ}
use mathlib.Core.Path.{◌≡◌, refl}
use mathlib.Core.Logic.{◌⊎◌, inl, inr}
use native.Mathlib.Omega.{arith}
use Rattle.packet.specs.declared.header.SpaceId.{SpaceId}
use Rattle.packet.specs.declared.header.SpaceId.TheVariants as id
use Rattle.spaces.specs.Each.{Each, of, put}

-- the same space, or another
pub same? : (s t : SpaceId) → (s ≡ t) ⊎ (s ≡ t → ⊥)
same? id.Initial id.Initial = inl refl
same? id.Handshake id.Handshake = inl refl
same? id.Data id.Data = inl refl
same? id.Initial id.Handshake = inr (λ p. let z : ◌≡◌ {A = ℕ} 0 1 = cc in omega arith)
same? id.Initial id.Data = inr (λ p. let z : ◌≡◌ {A = ℕ} 0 1 = cc in omega arith)
same? id.Handshake id.Initial = inr (λ p. let z : ◌≡◌ {A = ℕ} 0 1 = cc in omega arith)
same? id.Handshake id.Data = inr (λ p. let z : ◌≡◌ {A = ℕ} 0 1 = cc in omega arith)
same? id.Data id.Initial = inr (λ p. let z : ◌≡◌ {A = ℕ} 0 1 = cc in omega arith)
same? id.Data id.Handshake = inr (λ p. let z : ◌≡◌ {A = ℕ} 0 1 = cc in omega arith)

module _ {A : Type 0} (x : Each A) where
  pub put_same : (s : SpaceId) (a : A) → of (put x s a) s ≡ a
  put_same id.Initial a = refl
  put_same id.Handshake a = refl
  put_same id.Data a = refl

  pub put_other : (s t : SpaceId) (a : A) → (s ≡ t → ⊥) → of (put x s a) t ≡ of x t
  put_other id.Initial id.Initial a n = absurd (n refl)
  put_other id.Initial id.Handshake a n = refl
  put_other id.Initial id.Data a n = refl
  put_other id.Handshake id.Initial a n = refl
  put_other id.Handshake id.Handshake a n = absurd (n refl)
  put_other id.Handshake id.Data a n = refl
  put_other id.Data id.Initial a n = refl
  put_other id.Data id.Handshake a n = refl
  put_other id.Data id.Data a n = absurd (n refl)

  pub put_swap : (s t : SpaceId) (a b : A) → (s ≡ t → ⊥) → put (put x s a) t b ≡ put (put x t b) s a
  put_swap id.Initial id.Initial a b n = absurd (n refl)
  put_swap id.Initial id.Handshake a b n = refl
  put_swap id.Initial id.Data a b n = refl
  put_swap id.Handshake id.Initial a b n = refl
  put_swap id.Handshake id.Handshake a b n = absurd (n refl)
  put_swap id.Handshake id.Data a b n = refl
  put_swap id.Data id.Initial a b n = refl
  put_swap id.Data id.Handshake a b n = refl
  put_swap id.Data id.Data a b n = absurd (n refl)

  pub put_back : (s : SpaceId) → put x s (of x s) ≡ x
  put_back id.Initial = refl
  put_back id.Handshake = refl
  put_back id.Data = refl
