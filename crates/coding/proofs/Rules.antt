-- The lists of lemmas that a `search` at a return takes.
use Rattle.std.specs.Prelude.{if◌then◌else◌}
use mathlib.Core.Path.{◌≡◌, refl}
use Prim.Native.Nat.{ℕ, ◌≤◌, ◌<◌}
use mathlib.Core.Bool.{Bool, true, false}
use lib.Dec.{ltb, leb, eqb}
use borrow.Author.Tests.{lt-ltb, le-ltb, le-leb, lt-leb, eq-eqb, ne_eqb}
use Rattle.coding.specs.Words.{Got, cut, got, and_then}

-- a test on the way says which case of a definition holds
pub ruleset tests = (lt-ltb, le-ltb, le-leb, lt-leb, eq-eqb, ne_eqb)

-- a definition's choice by a test of two numbers
module _ {A : Type 0} (a b : ℕ) (x p q : A) where
  pub lt_yes : a < b → x ≡ p → x ≡ (if ltb a b then p else q)
  lt_yes h e = rw (lt-ltb a b h) e

  pub lt_no : b ≤ a → x ≡ q → x ≡ (if ltb a b then p else q)
  lt_no h e = rw (le-ltb a b h) e

  pub le_yes : a ≤ b → x ≡ p → x ≡ (if leb a b then p else q)
  le_yes h e = rw (le-leb a b h) e

  pub le_no : b < a → x ≡ q → x ≡ (if leb a b then p else q)
  le_no h e = rw (lt-leb a b h) e

  pub eq_yes : a ≡ b → x ≡ p → x ≡ (if eqb a b then p else q)
  eq_yes h e = rw (eq-eqb a b h) e

  pub eq_no : (a ≡ b → ⊥) → x ≡ q → x ≡ (if eqb a b then p else q)
  eq_no h e = rw (ne_eqb a b h) e

pub ruleset choices = (lt_yes, lt_no, le_yes, le_no, eq_yes, eq_no)

-- what holds of each way holds of a choice, and of what follows a read
pub if_all : {A : Type 0} (P : A → Type 0) (t : Bool) (p q : A) → (t ≡ true → P p) → (t ≡ false → P q) → P (if t then p else q)
if_all P true p q on off = on refl
if_all P false p q on off = off refl

pub then_all : {A B : Type 0} (P : B → Type 0) (m : Got A) (stop : B) (f : A → ℕ → B)
    → (m ≡ cut → P stop) → ((a : A) (n : ℕ) → m ≡ got a n → P (f a n)) → P (and_then m stop f)
unfolding and_then
then_all P cut stop f stopped went = stopped refl
then_all P (got a n) stop f stopped went = went a n refl
