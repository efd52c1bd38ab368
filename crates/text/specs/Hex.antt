-- Bytes in hex: two ASCII digits a byte, the letters in lower case.
use Rattle.std.specs.Prelude.{ℕ, ◌+◌, ◌/◌, ◌%◌, List, [], ◌∷◌, ltb, if◌then◌else◌}

-- "0" to "9", "a" to "f"
unfoldable pub hex_digit : ℕ → ℕ
hex_digit d = if ltb d 10 then 0x30 + d else 0x57 + d

unfoldable pub hex_of : List ℕ → List ℕ
hex_of [] = []
hex_of (b ∷ bs) = hex_digit (b / 16) ∷ hex_digit (b % 16) ∷ hex_of bs

-- the same, with a word for no bytes
unfoldable pub hex_or : List ℕ → List ℕ → List ℕ
hex_or none [] = none
hex_or none (b ∷ bs) = hex_of (b ∷ bs)
