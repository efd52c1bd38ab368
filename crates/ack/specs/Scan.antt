-- ACK ranges: RFC 9000, section 19.3.1. The smallest number of a range is its largest minus the block; the next range's largest
-- is that smallest minus the gap minus 2. Below zero is 12, a field that is cut is 10.
use Rattle.std.specs.Prelude.{ℕ, zero, suc, ◌+◌, ◌-◌, List, [], ◌∷◌, length, ltb, leb, if◌then◌else◌}
use Rattle.coding.specs.Words.{and_then, Answer, no, ok, number_end, max_datagram}
use Rattle.coding.specs.Varint.{var_at}

-- a range: its smallest number and its largest
pub record Range : Type 0 where
  pub smallest : ℕ
  pub largest : ℕ

-- n rounds of gap and block, below the smallest number so far: the place past them
unfoldable pub rounds : List ℕ → ℕ → ℕ → ℕ → Answer ℕ
rounds s zero at smallest = ok at
rounds s (suc n) at smallest =
    and_then (var_at s at) (no 10) (λ gap mid.
    if ltb smallest (gap + 2) then no 12 else
    and_then (var_at s mid) (no 10) (λ block past.
    if ltb (smallest - (gap + 2)) block then no 12 else
    rounds s n past (smallest - (gap + 2) - block)))

-- the first block, below the largest number, and n rounds
unfoldable pub scan_at : List ℕ → ℕ → ℕ → ℕ → Answer ℕ
scan_at s at largest n =
    and_then (var_at s at) (no 10) (λ first after.
    if ltb largest first then no 12 else
    rounds s n after (largest - first))

-- the arguments' rule comes first
unfoldable pub scanned : List ℕ → ℕ → ℕ → ℕ → Answer ℕ
scanned s at largest n =
    if ltb max_datagram (length s) then no 14 else
    if leb number_end largest then no 14 else
    if leb number_end n then no 14 else
    scan_at s at largest n

-- the ranges that the rounds pass, and those that the scan passes, largest first
unfoldable pub round_ranges : List ℕ → ℕ → ℕ → ℕ → List Range
round_ranges s zero at smallest = []
round_ranges s (suc n) at smallest =
    and_then (var_at s at) [] (λ gap mid.
    and_then (var_at s mid) [] (λ block past.
    record { smallest = smallest - (gap + 2) - block; largest = smallest - (gap + 2) } ∷ round_ranges s n past (smallest - (gap + 2) - block)))

unfoldable pub ranges_at : List ℕ → ℕ → ℕ → ℕ → List Range
ranges_at s at largest n =
    and_then (var_at s at) [] (λ first after.
    record { smallest = largest - first; largest = largest } ∷ round_ranges s n after (largest - first))
