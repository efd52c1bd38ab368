-- A text is a list of pieces, put one after the other; a piece that does not fit is left out.
use Rattle.std.specs.Prelude.{ℕ, ◌+◌, ◌≡◌, List, [], ◌∷◌, length, leb, if◌then◌else◌}
use Rattle.coding.specs.Bytes.{splice}

-- a piece at a place of a buffer: the next place, and the buffer then (coding's `Put`, as a function)
unfoldable pub put_one : List ℕ → (ℕ × List ℕ) → (ℕ × List ℕ)
put_one bs (at, old) = if leb (at + length bs) (length old) then (at + length bs, splice old at bs) else (at, old)

unfoldable pub puts : List (List ℕ) → (ℕ × List ℕ) → (ℕ × List ℕ)
puts [] o = o
puts (x ∷ xs) o = puts xs (put_one x o)

-- a text at a place of the buffer `old`: it answers the next place and leaves `new`
abbrev pub PutAll : List (List ℕ) → List ℕ → ℕ → ℕ → List ℕ → Type 0
PutAll xs old at next new = ◌≡◌ {A = ℕ × List ℕ} (next, new) (puts xs (at, old))
