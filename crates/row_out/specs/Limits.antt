-- What a frame's writer may be given and may write: document 01, "Numbers we hold to".
use Rattle.std.specs.Prelude.{ℕ, List, [], ◌∷◌, ◌++◌, Bool, true, false, length, ltb, leb, if◌then◌else◌}
use Rattle.coding.specs.Words.{Answer, no, ok, number_end, max_datagram}
use Rattle.coding.specs.Varint.{var_bytes}
use Rattle.frame.specs.Table.{Row}
use Rattle.row_out.specs.Writing.{Word, number, raw, nothing, frame_bytes}

-- each integer is at most 2^62 - 1
unfoldable pub below62 : List ℕ → Bool
below62 [] = true
below62 (x ∷ xs) = if ltb x number_end then below62 xs else false

-- a frame has at most 65,527 bytes: past that it is 14
unfoldable pub in_frame : List ℕ → Answer (List ℕ)
in_frame bs = if leb (length bs) max_datagram then ok bs else no 14

-- the bytes bs, which say the integers xs: 14 where one of them is past its limit
unfoldable pub limited : List ℕ → List ℕ → Answer (List ℕ)
limited xs bs = if below62 xs then in_frame bs else no 14

-- the numbers among the words
unfoldable pub word_numbers : List Word → List ℕ
word_numbers [] = []
word_numbers (number n ∷ ws) = n ∷ word_numbers ws
word_numbers (raw bs ∷ ws) = word_numbers ws
word_numbers (nothing ∷ ws) = word_numbers ws

-- a frame of type t whose numbers are integers, or 14 (those of the two path frames are not: eight bytes hold any number)
unfoldable pub frame_out : List Row → ℕ → List Word → Answer (List ℕ)
frame_out rows t ws = limited (word_numbers ws) (frame_bytes rows t ws)

-- ---- integers, one after the other

unfoldable pub vars_bytes : List ℕ → List ℕ
vars_bytes [] = []
vars_bytes (x ∷ xs) = var_bytes x ++ vars_bytes xs

-- and then the bytes bs
unfoldable pub vars_out : List ℕ → List ℕ → Answer (List ℕ)
vars_out xs bs = limited xs (vars_bytes xs ++ bs)

-- what a put stores: nothing where it is refused
unfoldable pub stored : Answer (List ℕ) → List ℕ
stored (no k) = []
stored (ok bs) = bs
