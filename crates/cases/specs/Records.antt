-- The records of an input. Each is its operation's number, its length in 3 bytes, and its fields: six numbers of 8 bytes, then
-- its parts, each after its length in 3 bytes.
use Rattle.std.specs.Prelude.{ℕ, zero, suc, ◌+◌, ◌*◌, ◌≤◌, ◌≡◌, List, [], ◌∷◌, length, take, set}
use Rattle.coding.specs.Words.{Got, cut, and_then}
use Rattle.coding.specs.Reading.{fixed_at, take_at}
use Rattle.coding.specs.Writing.{Put}
use Rattle.coding.specs.declared.Place.{Place}
use Rattle.cases.specs.declared.record.Numbers.{Numbers}

-- what an input goes on with: a record, with its operation and how many bytes its fields are; nothing; or a part of one
pub data Case : Type 0 where
  asked : ℕ → ℕ → Case
  ended : Case
  stopped : Case

-- by the first 4 bytes, or as many as there are
unfoldable pub head_in : List ℕ → Case
head_in s =
    and_then (fixed_at 1 s 0) ended (λ op p. and_then (fixed_at 1 s p) stopped (λ high q. and_then (fixed_at 2 s q) stopped (λ low next. asked op (high * 65536 + low))))

-- bytes after their length in 3 bytes
unfoldable pub sized_at : List ℕ → ℕ → Got Place
sized_at s at = and_then (fixed_at 1 s at) cut (λ high p. and_then (fixed_at 2 s p) cut (λ low q. take_at (high * 65536 + low) s q))

-- number i of a record; 0 where it has none
unfoldable pub number_in : List ℕ → ℕ → ℕ
number_in s i = and_then (fixed_at 8 s (8 * i)) 0 (λ x next. x)

unfoldable pub numbers_in : List ℕ → Numbers
numbers_in s =
    record { n0 = number_in s 0; n1 = number_in s 1; n2 = number_in s 2; n3 = number_in s 3; n4 = number_in s 4; n5 = number_in s 5 }

-- the part after j others
unfoldable pub part_after : ℕ → List ℕ → ℕ → Got Place
part_after zero s at = sized_at s at
part_after (suc j) s at = and_then (sized_at s at) cut (λ p next. part_after j s next)

abbrev pub nowhere : Place
nowhere = record { start = 0; len = 0 }

-- part j of a record; the empty part where it has none
unfoldable pub part_in : List ℕ → ℕ → Place
part_in s j = and_then (part_after j s 48) nowhere (λ p next. p)

-- byte i of a part; 0 where it has none
unfoldable pub byte_in : List ℕ → ℕ → ℕ
byte_in s i = and_then (fixed_at 1 s i) 0 (λ x next. x)

unfoldable pub five_in : List ℕ → List ℕ
five_in s = byte_in s 0 ∷ byte_in s 1 ∷ byte_in s 2 ∷ byte_in s 3 ∷ byte_in s 4 ∷ []

-- n counts elements at the start of l, which the proof that Rattle makes of `&mut l[..n]` asks for in both ways
abbrev pub Counts : ℕ → List ℕ → Type 0
Counts n l = (n ≤ length l) × (n ≡ length (take n l))

-- bs are laid at the start of a buffer, where they fit; n is how many they are
pub record Laid (bs old : List ℕ) (n : ℕ) (new : List ℕ) : Type 0 where
  pub put : Put bs old 0 n new
  pub within : Counts n new

-- numbers of 4 bytes from a place of s on, put into a list from its place n on, at most so many: how many there are then, and
-- the list
unfoldable pub words_from : ℕ → List ℕ → ℕ → (ℕ × List ℕ) → (ℕ × List ℕ)
words_from zero s at o = o
words_from (suc most) s at (n, list) = and_then (fixed_at 4 s at) (n, list) (λ x next. words_from most s next (n + 1, set list n x))

pub record Listed (s old : List ℕ) (n : ℕ) (new : List ℕ) : Type 0 where
  pub says : ◌≡◌ {A = ℕ × List ℕ} (n, new) (words_from (length old) s 0 (0, old))
  pub within : Counts n new
