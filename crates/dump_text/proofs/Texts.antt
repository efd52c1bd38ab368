-- What each step adds to the text.
use mathlib.Core.Path.{◌≡◌, refl, ap, ◌∙◌}
use mathlib.Core.List.{List, [], ◌∷◌, ◌++◌, append-nil}
use mathlib.Core.Bool.{false}
use mathlib.Core.Option.{none, some}
use Prim.Native.Nat.{ℕ, suc, ◌+◌}
use native.Mathlib.Omega.{arith}
use lib.ListN.{length}
use Rattle.packet.specs.Walk.{Met, at_end, packet, refused_at}
use Rattle.packet.proofs.Walks.{repeated, ends, stops, goes}
use Rattle.dump_text.specs.Dump.{line_of, after_of, lines_of, next_of}
use Rattle.dump_text.specs.Turns.{step_here, line_at}

-- ---- by what comes next

pub record Packet (m : Met) (next : ℕ) : Type 0 where
  pub start : ℕ
  pub len : ℕ
  pub is : m ≡ packet start len
  pub end : start + len ≡ next

pub next_some : (m : Met) (next : ℕ) → some next ≡ next_of m → Packet m next
next_some at_end next e = let z : ◌≡◌ {A = ℕ} 0 1 = cc in absurd (omega arith)
next_some (packet start len) next e = record { start = start; len = len; is = refl; end = cc }
next_some (refused_at start) next e = let z : ◌≡◌ {A = ℕ} 0 1 = cc in absurd (omega arith)

module _ (s : List ℕ) (at n : ℕ) where
  after_more : (m : Met) (start len : ℕ) (rest : List ℕ) → m ≡ packet start len → after_of m rest ≡ rest
  unfolding after_of
  after_more m start len rest e = rw e

  -- the text from a step on, where a packet is met
  pub more_text : (start len : ℕ) → (step_here s at).met ≡ packet start len
      → lines_of (length s) (repeated (suc n) s at 0 (1 ∷ []) false) ≡ line_at s at ++ lines_of (length s) (repeated n s (start + len) 0 (1 ∷ []) false)
  unfolding repeated lines_of line_at
  more_text start len e =
      ap (lines_of (length s)) (goes (step_here s at).met (step_here s at) (λ next. repeated n s next 0 (1 ∷ []) false) start len e)
      ∙ ap (λ (rest : List ℕ). line_at s at ++ rest) (after_more (step_here s at).met start len _ e)

  -- and where none is
  pub last_text : none ≡ next_of (step_here s at).met → lines_of (length s) (repeated (suc n) s at 0 (1 ∷ []) false) ≡ line_at s at
  unfolding repeated lines_of line_at line_of after_of
  last_text = go (step_here s at).met refl
    where
      go : (m : Met) → (step_here s at).met ≡ m → none ≡ next_of m → lines_of (length s) (repeated (suc n) s at 0 (1 ∷ []) false) ≡ line_at s at
      go at_end e f = ap (lines_of (length s)) (ends (step_here s at).met (step_here s at) (λ next. repeated n s next 0 (1 ∷ []) false) e) ∙ rw e
      go (packet start len) e f = let z : ◌≡◌ {A = ℕ} 0 1 = cc in absurd (omega arith)
      go (refused_at start) e f =
          ap (lines_of (length s)) (stops (step_here s at).met (step_here s at) (λ next. repeated n s next 0 (1 ∷ []) false) start e)
          ∙ rw e (append-nil _)
