-- The ACK frame of a list of ranges: RFC 9000, section 19.3; document 01, "Encoders".
use Rattle.std.specs.Prelude.{ℕ, zero, suc, ◌+◌, ◌-◌, ◌*◌, ◌/◌, ◌%◌, List, [], ◌∷◌, map, Bool, true, false, length, get_or, ltb, leb, eqb, if◌then◌else◌}
use Rattle.std.proofs.Math.Option.{Option, none, some}
use Rattle.coding.specs.Words.{Answer, no, number_end}
use Rattle.ack.specs.Scan.{Range}
use Rattle.frame.specs.Table.{table}
use Rattle.row_out.specs.Writing.{Word, number, raw, nothing}
use Rattle.row_out.specs.Limits.{vars_bytes, frame_out}

-- ---- the ranges of a flat list of starts and ends, each end past its range's largest number

-- each number is below the next: no range is empty, and no two touch or overlap
unfoldable pub ascends : List ℕ → Bool
ascends [] = true
ascends (a ∷ []) = true
ascends (a ∷ b ∷ l) = if leb b a then false else ascends (b ∷ l)

-- the list's rule: not empty, no start without an end, the last end at most 2^62, ascending
unfoldable pub is_ranges : List ℕ → Bool
is_ranges l =
    if eqb (length l) 0 then false else
    if eqb (length l % 2) 1 then false else
    if ltb number_end (get_or l (length l - 1) 0) then false else
    ascends l

-- the range of pair i
unfoldable pub range_at : List ℕ → ℕ → Range
range_at l i = record { smallest = get_or l (2 * i) 0; largest = get_or l (2 * i + 1) 0 - 1 }

-- the ranges of the first n pairs, and of all, largest first
unfoldable pub ranges_of : List ℕ → ℕ → List Range
ranges_of l zero = []
ranges_of l (suc n) = range_at l n ∷ ranges_of l n

abbrev pub all_ranges : List ℕ → List Range
all_ranges l = ranges_of l (length l / 2)

-- ---- 19.3: the fields, of ranges largest first

-- the largest number
unfoldable pub largest_of : List Range → ℕ
largest_of [] = 0
largest_of (r ∷ rs) = r.largest

-- 19.3.1: a range's gap below the smallest number so far, and its block; the first range has no gap
unfoldable pub round_numbers : ℕ → List Range → List ℕ
round_numbers low [] = []
round_numbers low (r ∷ rs) = (low - r.largest - 2) ∷ (r.largest - r.smallest) ∷ round_numbers r.smallest rs

unfoldable pub block_numbers : List Range → List ℕ
block_numbers [] = []
block_numbers (r ∷ rs) = (r.largest - r.smallest) ∷ round_numbers r.smallest rs

abbrev pub block_bytes : List Range → List ℕ
block_bytes rs = vars_bytes (block_numbers rs)

-- 19.3.2: the counts of ECT(0), ECT(1) and CE, where there are any
unfoldable pub counts_of : Option (ℕ × (ℕ × ℕ)) → List ℕ
counts_of none = []
counts_of (some (ect0, (ect1, ce))) = ect0 ∷ ect1 ∷ ce ∷ []

-- type 03 has them, type 02 has none
unfoldable pub ack_type_of : Option (ℕ × (ℕ × ℕ)) → ℕ
ack_type_of none = 0x02
ack_type_of (some counts) = 0x03

unfoldable pub ecn_words : Option (ℕ × (ℕ × ℕ)) → List Word
ecn_words none = nothing ∷ []
ecn_words (some counts) = map number (counts_of (some counts))

-- the words of the table's row: the largest number, the delay, the blocks, the counts
unfoldable pub ack_words : ℕ → List Range → Option (ℕ × (ℕ × ℕ)) → List Word
ack_words delay rs ecn = number (largest_of rs) ∷ number delay ∷ raw (block_bytes rs) ∷ ecn_words ecn

-- what is written: 14 where the list does not keep its rule, or where frame_out says so
unfoldable pub ack_out : ℕ → List ℕ → Option (ℕ × (ℕ × ℕ)) → Answer (List ℕ)
ack_out delay l ecn = if is_ranges l then frame_out table (ack_type_of ecn) (ack_words delay (all_ranges l) ecn) else no 14

-- the integers that stand before the blocks
abbrev pub head_of : ℕ → List Range → Option (ℕ × (ℕ × ℕ)) → List ℕ
head_of delay rs ecn = ack_type_of ecn ∷ largest_of rs ∷ delay ∷ (length rs - 1) ∷ []
