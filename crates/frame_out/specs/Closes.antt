-- The closes, held to max bytes: document 01, "Encoders"; document 02, request 11; RFC 9000, 19.19.
use Rattle.std.specs.Prelude.{ℕ, ◌+◌, ◌-◌, List, [], ◌∷◌, ◌++◌, Bool, true, false, length, take, ltb, leb, if◌then◌else◌}
use Rattle.coding.specs.Words.{Answer, no, ok, number_end}
use Rattle.coding.specs.Varint.{var_size}
use Rattle.frame.specs.Table.{table}
use Rattle.row_out.specs.Writing.{Word, number, raw, word_number}
use Rattle.row_out.specs.Limits.{frame_out, vars_bytes, vars_out}

-- the transport's, with its error code and the frame type that caused it, or nothing; the application's, with its error code
pub data Closing : Type 0 where
  connection : ℕ → Word → Closing
  application : ℕ → Closing

abbrev pub is_connection : Closing → Bool
is_connection (connection code ty) = true
is_connection (application code) = false

-- what is taken off max for the fields beside a reason of n bytes: the type, each integer by its size, the whole reason's length
-- among them
unfoldable pub fixed_fields : Closing → ℕ → ℕ
fixed_fields (connection code ty) n = 1 + var_size code + var_size (word_number ty) + var_size n
fixed_fields (application code) n = 1 + var_size code + var_size n

-- the reason is cut to what is left; 14 where the fixed fields are more than max, or the reason's length is no integer
unfoldable pub reason_cut : ℕ → ℕ → List ℕ → Answer (List ℕ)
reason_cut fixed max reason =
    if ltb (length reason) number_end then
    (if leb fixed max then ok (take (max - fixed) reason) else no 14)
    else no 14

unfoldable pub close_with : Closing → Answer (List ℕ) → Answer (List ℕ)
close_with c (no k) = no k
close_with (connection code ty) (ok reason) = frame_out table 0x1c (number code ∷ ty ∷ raw reason ∷ [])
close_with (application code) (ok reason) = frame_out table 0x1d (number code ∷ raw reason ∷ [])

unfoldable pub close_out : Closing → List ℕ → ℕ → Answer (List ℕ)
close_out c reason max = close_with c (reason_cut (fixed_fields c (length reason)) max reason)

-- ---- as integers: any of them, then the length of what is kept of a reason, and the reason

unfoldable pub cut_with : List ℕ → Answer (List ℕ) → Answer (List ℕ)
cut_with head (no k) = no k
cut_with head (ok reason) = vars_out (head ++ (length reason ∷ [])) reason

unfoldable pub cut_out : List ℕ → List ℕ → ℕ → Answer (List ℕ)
cut_out head reason max = cut_with head (reason_cut (length (vars_bytes head) + var_size (length reason)) max reason)
