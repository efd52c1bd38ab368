-- What is written is read back: which words fit a row, and the values that are read of them.
use Rattle.std.specs.Prelude.{ℕ, suc, ◌+◌, ◌≤◌, ◌<◌, ◌^◌, ◌≡◌, List, [], ◌∷◌, ◌++◌, map, length}
use Rattle.shared.specs.Cid.{max_cid}
use Rattle.coding.specs.Words.{ok, number_end, max_datagram}
use Rattle.coding.specs.Places.{part_of}
use Rattle.coding.specs.Varint.{var_size}
use Rattle.ack.specs.Scan.{scan_at}
use Rattle.frame.specs.Format.{Value, num, place, none, said, Field, var, or_none, at_most, bytes, rest, fixed, num64, cid, ack_blocks, const, absent, last_read, last_but_one, or_nothing}
use Rattle.frame.specs.Table.{Row, look, taken}
use Rattle.frame.specs.Walk.{walk_from, frame, step_at}
use Rattle.row_out.specs.Writing.{Word, number, raw, nothing, word_number, word_bytes, rounds_in, field_bytes, row_bytes, fields_of}
use Rattle.row_out.specs.Bounds.{bound_of, data_in}

-- a value, with the bytes of the part that it names
abbrev pub as_word : List ℕ → Value → Word
as_word s (num n) = number n
as_word s (place p) = raw (part_of s p)
as_word s none = nothing

-- the word fits the field, after the values `seen` (the last one first) and before the bytes q: a number its rule, a length
-- its rule, ACK blocks what the scan takes whole; nothing stands behind `rest`; a word that the type itself says is what it says
abbrev pub Fits : Field → Word → List Value → List ℕ → Type 0
Fits var w seen q = word_number w < number_end
Fits or_none w seen q = word_number w < number_end
Fits at_most w seen q = (word_number w < number_end) × (word_number w ≤ last_read seen)
Fits bytes w seen q = length (word_bytes w) < number_end
Fits rest w seen q = q ≡ []
Fits (fixed k) w seen q = length (word_bytes w) ≡ k
Fits num64 w seen q = word_number w < 2 ^ 64
Fits cid w seen q = (0 < length (word_bytes w)) × (length (word_bytes w) ≤ max_cid)
Fits ack_blocks w seen q =
    (rounds_in (word_bytes w) < number_end) × (scan_at (word_bytes w) 0 (last_but_one seen) (rounds_in (word_bytes w)) ≡ ok (length (word_bytes w)))
Fits (const n) w seen q = w ≡ number n
Fits absent w seen q = w ≡ nothing

-- so many bytes from a place on
abbrev pub place_from : ℕ → ℕ → Value
place_from start len = place (record { start = start; len = len })

-- the value that is read of a word written at a place
abbrev pub value_at : Field → Word → ℕ → Value
value_at var w at = num (word_number w)
value_at or_none w at = or_nothing (word_number w)
value_at at_most w at = num (word_number w)
value_at bytes w at = place_from (at + var_size (length (word_bytes w))) (length (word_bytes w))
value_at rest w at = place_from at (length (word_bytes w))
value_at (fixed k) w at = place_from at k
value_at num64 w at = num (word_number w)
value_at cid w at = place_from (at + 1) (length (word_bytes w))
value_at ack_blocks w at = place_from (at + var_size (rounds_in (word_bytes w))) (length (word_bytes w))
value_at (const n) w at = num n
value_at absent w at = none

abbrev pub values_at : List Field → List Word → ℕ → List Value
values_at [] ws at = []
values_at (f ∷ fs) [] at = []
values_at (f ∷ fs) (w ∷ ws) at = value_at f w at ∷ values_at fs ws (at + length (field_bytes f w))

-- the words fit the row, each its field, after `seen` at a place and before q
abbrev pub WordsFit : List Field → List Word → List Value → ℕ → List ℕ → Type 0
WordsFit [] [] seen at q = Unit
WordsFit [] (w ∷ ws) seen at q = ⊥
WordsFit (f ∷ fs) [] seen at q = ⊥
WordsFit (f ∷ fs) (w ∷ ws) seen at q =
    Fits f w seen (row_bytes fs ws ++ q) × WordsFit fs ws (value_at f w at ∷ seen) (at + length (field_bytes f w)) q

-- ---- the words that come back: those that were given, but a number 0 that says nothing is nothing

abbrev pub word_read : Field → Word → Word
word_read var w = number (word_number w)
word_read or_none w = as_word [] (or_nothing (word_number w))
word_read at_most w = number (word_number w)
word_read bytes w = raw (word_bytes w)
word_read rest w = raw (word_bytes w)
word_read (fixed k) w = raw (word_bytes w)
word_read num64 w = number (word_number w)
word_read cid w = raw (word_bytes w)
word_read ack_blocks w = raw (word_bytes w)
word_read (const n) w = w
word_read absent w = w

abbrev pub words_read : List Field → List Word → List Word
words_read [] ws = []
words_read (f ∷ fs) [] = []
words_read (f ∷ fs) (w ∷ ws) = word_read f w ∷ words_read fs ws

-- ---- what is read

-- the bytes bs, behind p and before q in a payload within its rule: the step there hands out a frame of type t and the place past
-- it, and so does the walk, which goes on from that place; its values say the words ws; it is no longer than its bound, besides data
pub record ReadAs (rows : List Row) (t name : ℕ) (ws : List Word) (p bs q : List ℕ) : Type 0 where
  pub values : List Value
  pub read : length (p ++ (bs ++ q)) ≤ max_datagram → step_at rows (p ++ (bs ++ q)) (length p) ≡ frame (taken t (said name values) (length p + length bs))
  pub walked : (turns : ℕ) → walk_from rows (p ++ (bs ++ q)) (suc turns) (length p)
      ≡ (length p, taken t (said name values) (length p + length bs)) ∷ walk_from rows (p ++ (bs ++ q)) turns (length p + length bs)
  pub say : map (as_word (p ++ (bs ++ q))) values ≡ ws
  pub short : length bs ≤ bound_of rows t + data_in (fields_of (look rows t) t) ws
