-- Numbers in decimal: ASCII digits, no leading zeros, and 0 as one digit.
use Rattle.std.specs.Prelude.{ℕ, zero, suc, ◌+◌, ◌/◌, ◌%◌, List, [], ◌∷◌, ◌++◌, ltb, if◌then◌else◌}

-- the digits of x, at most the last n: those of x / 10, where x is more than one digit, and then the digit of x % 10
unfoldable pub digits : ℕ → ℕ → List ℕ
digits zero x = []
digits (suc n) x = (if ltb x 10 then [] else digits n (x / 10)) ++ ((0x30 + x % 10) ∷ [])

-- x has no more than x + 1 digits
unfoldable pub decimal : ℕ → List ℕ
decimal x = digits (suc x) x
