-- A packet number is never cut (document 02, request 09): laws as statements, proved in proofs/.
use Rattle.std.specs.Prelude.{ℕ, ◌≤◌, ◌≡◌, List, Bool, true, length, drop}
use Rattle.std.proofs.Math.Option.{Option}
use Rattle.coding.specs.Words.{Answer, no}
use Rattle.protect.specs.Tests.{has_sample}
use Rattle.protect.specs.Steps.{Opened, Finishes, Masks}

-- where rule 8 passes, at least four bytes are left from the number offset on
abbrev pub FourLeft : Type 0
FourLeft = (packet : List ℕ) (at : ℕ) → has_sample (length packet) at ≡ true → 4 ≤ length (drop at packet)

-- document 01's 9 is never answered: by finish, or by the mask step
abbrev pub FinishNotNine : Type 0
FinishNotNine =
    (numbered is_long : Bool) (packet : List ℕ) (at : ℕ) (mask : List ℕ) (said : Answer Opened) (new : List ℕ)
    → Finishes numbered is_long packet at mask said new → said ≡ no 9 → ⊥

abbrev pub MaskNotNine : Type 0
MaskNotNine =
    (header_len : ℕ) (number : Option ℕ) (has_length : Bool) (packet mask : List ℕ) (said : Answer (Unit {0})) (new : List ℕ)
    → Masks header_len number has_length packet mask said new → said ≡ no 9 → ⊥
