-- Packet numbers cut to their last bytes, and those bytes: RFC 9000, 17.1.
use Rattle.std.specs.Prelude.{ℕ, zero, suc, ◌+◌, ◌-◌, ◌*◌, ◌%◌, ◌^◌, Bool, List, [], take, ltb, eqb, if◌then◌else◌}
use Rattle.coding.specs.Words.{Answer, no, ok, number_end}
use Rattle.coding.specs.Bytes.{be, bytes_be}
use Rattle.shared.specs.declared.kinds.CutNumber.{CutNumber}

-- a cut number: its length k in bytes, and its value
abbrev pub cut : ℕ → ℕ → CutNumber
cut k v = record { 0 = k; 1 = v }

-- how many values k bytes have, k from 1 to 4; none for any other k
unfoldable pub window_of : ℕ → ℕ
window_of k = if ltb k 1 then 0 else if ltb 4 k then 0 else 2 ^ (8 * k)

-- the rule of a cut number: k of 1 to 4, and a value below 2^(8k)
unfoldable pub is_cut : CutNumber → Bool
is_cut c = ltb c.1 (window_of c.0)

-- the first of the m lengths from k on with more than t values; 0 where there is none
abbrev pub first_fit : ℕ → ℕ → ℕ → ℕ
first_fit zero k t = 0
first_fit (suc m) k t = if ltb t (2 ^ (8 * k)) then k else first_fit m (suc k) t

-- 17.1: the fewest of 1 to 4 bytes that have more than t values
unfoldable pub bytes_for : ℕ → ℕ
bytes_for t = first_fit 4 1 t

-- the last k bytes of n; 16 where no length is enough
unfoldable pub cut_to : ℕ → ℕ → Answer CutNumber
cut_to n k = if eqb k 0 then no 16 else ok (cut k (n % window_of k))

-- 17.1: more than twice the range from the largest acknowledged on can be told apart
unfoldable pub cut_made : ℕ → ℕ → Answer CutNumber
cut_made n acked =
    if ltb (number_end - 1) n then no 14 else
    if ltb n acked then no 14 else
    cut_to n (bytes_for (2 * (n - acked)))

-- 17.2, 17.3.1: the two low bits of byte 0 are the length less one
abbrev pub length_bits : CutNumber → ℕ
length_bits c = c.0 - 1

unfoldable pub cut_tag : CutNumber → Answer ℕ
cut_tag c = if is_cut c then ok (length_bits c) else no 14

abbrev pub tag_length : ℕ → ℕ
tag_length first = 1 + first % 4

-- its bytes, in network order; what is written, and what a put stores
abbrev pub cut_bytes : CutNumber → List ℕ
cut_bytes c = bytes_be c.0 c.1

unfoldable pub cut_out : CutNumber → Answer (List ℕ)
cut_out c = if is_cut c then ok (cut_bytes c) else no 14

unfoldable pub cut_put : CutNumber → List ℕ
cut_put c = if is_cut c then cut_bytes c else []

-- the cut number of the first k bytes
abbrev pub first_cut : ℕ → List ℕ → CutNumber
first_cut k bs = cut k (be 0 (take k bs))

unfoldable pub cut_read : ℕ → List ℕ → Answer CutNumber
cut_read k bs = if ltb k 1 then no 14 else if ltb 4 k then no 14 else ok (first_cut k bs)
