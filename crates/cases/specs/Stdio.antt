-- Standard input and output, as far as a contract can tell: what is read is in none.
use Rattle.std.specs.Prelude.{ℕ, ◌≡◌, List, [], ◌∷◌, length, replicate, ltb, if◌then◌else◌}
use Rattle.text.specs.Puts.{puts}
use Rattle.cases.specs.Records.{Case, asked, ended, stopped}

-- a buffer of n zeros
pub record Zeros (n : ℕ) (l : List ℕ) : Type 0 where
  pub is : l ≡ replicate n 0
  pub counts : n ≡ length l

-- how many bytes the fields are of what an input goes on with
unfoldable pub fields_in : Case → ℕ
fields_in (asked op len) = len
fields_in ended = 0
fields_in stopped = 0

-- the next place: what stands before it is written out once it is much
abbrev pub kept : ℕ → ℕ
kept at = if ltb at 100000 then at else 0

-- a line feed at a place of the buffer `old` leaves `new`
pub record LineEnded (old : List ℕ) (at r : ℕ) (new : List ℕ) : Type 0 where
  pub says : r ≡ kept (puts ((0x0a ∷ []) ∷ []) (at, old)).0
  pub leaves : new ≡ (puts ((0x0a ∷ []) ∷ []) (at, old)).1
