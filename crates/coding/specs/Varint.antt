-- Variable-length integers: RFC 9000, section 16 and A.1.
use Rattle.std.specs.Prelude.{ℕ, ◌+◌, ◌-◌, ◌*◌, ◌/◌, ◌%◌, ◌^◌, List, [], length, take, drop, ltb, leb, if◌then◌else◌}
use Rattle.coding.specs.Words.{Got, cut, got, Answer, no, ok, number_end}
use Rattle.coding.specs.Bytes.{byte_at, be, bytes_be}

-- the two most significant bits of the first byte are the base-2 logarithm of the length in bytes
unfoldable pub var_len : ℕ → ℕ
var_len first = 2 ^ (first / 64)

-- the value is all the other bits, in network order
unfoldable pub var_at : List ℕ → ℕ → Got ℕ
var_at s at =
    if ltb at (length s) then
    (if leb (at + var_len (byte_at s at)) (length s) then
    got (be (byte_at s at % 64) (take (var_len (byte_at s at) - 1) (drop (at + 1) s))) (at + var_len (byte_at s at))
    else cut)
    else cut

-- the smallest of the four lengths whose bits hold x, by its logarithm: 6, 14, 30 or 62 bits
unfoldable pub var_tag : ℕ → ℕ
var_tag x = if ltb x (2 ^ 6) then 0 else if ltb x (2 ^ 14) then 1 else if ltb x (2 ^ 30) then 2 else 3

unfoldable pub var_size : ℕ → ℕ
var_size x = 2 ^ var_tag x

-- the shortest form of x: the tag in the two top bits, and x in the others
unfoldable pub var_bytes : ℕ → List ℕ
var_bytes x = bytes_be (var_size x) (var_tag x * 2 ^ (8 * var_size x - 2) + x)

-- from 2^62 on there is no form: 14
unfoldable pub in62 : {A : Type 0} → ℕ → A → Answer A
in62 x a = if ltb x number_end then ok a else no 14

-- an integer made of x; the size that x is written with; what is written
unfoldable pub var_made : ℕ → Answer ℕ
var_made x = in62 x x

unfoldable pub var_sized : ℕ → Answer ℕ
var_sized x = in62 x (var_size x)

unfoldable pub var_out : ℕ → Answer (List ℕ)
var_out x = in62 x (var_bytes x)

-- what a put of x stores
unfoldable pub var_put : ℕ → List ℕ
var_put x = if ltb x number_end then var_bytes x else []
