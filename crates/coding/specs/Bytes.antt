-- Bytes in network order, over any width.
use Rattle.std.specs.Prelude.{ℕ, zero, suc, ◌+◌, ◌*◌, ◌/◌, ◌%◌, ◌^◌, List, [], ◌∷◌, ◌++◌, length, get_or, take, drop}

abbrev pub byte_at : List ℕ → ℕ → ℕ
byte_at s i = get_or s i 0

-- the number that v and then the bytes bs make, most significant first
unfoldable pub be : ℕ → List ℕ → ℕ
be v [] = v
be v (b ∷ bs) = be (v * 256 + b) bs

-- the last n bytes of x, most significant first
unfoldable pub bytes_be : ℕ → ℕ → List ℕ
bytes_be zero x = []
bytes_be (suc n) x = (x / 256 ^ n % 256) ∷ bytes_be n x

-- l with the bytes bs in the place of as many from `at` on
unfoldable pub splice : List ℕ → ℕ → List ℕ → List ℕ
splice l at bs = take at l ++ bs ++ drop (at + length bs) l
