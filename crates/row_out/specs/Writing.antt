-- How a frame is written by its row: the table of frames, read the other way (RFC 9000, sections 12.4, 16 and 19).
use Rattle.std.specs.Prelude.{ℕ, zero, suc, ◌-◌, ◌/◌, List, [], ◌∷◌, ◌++◌, length}
use Rattle.std.proofs.Math.Option.{Option, some, none}
use Rattle.coding.specs.Words.{and_then}
use Rattle.coding.specs.Bytes.{bytes_be}
use Rattle.coding.specs.Varint.{var_at, var_bytes}
use Rattle.frame.specs.Format.{Field, var, or_none, at_most, bytes, rest, fixed, num64, cid, ack_blocks, const, absent}
use Rattle.frame.specs.Table.{Row, look}

-- what is given to a field: a number, some bytes, or nothing
pub data Word : Type 0 where
  number : ℕ → Word
  raw : List ℕ → Word
  nothing : Word

abbrev pub word_number : Word → ℕ
word_number (number n) = n
word_number (raw bs) = 0
word_number nothing = 0

abbrev pub word_bytes : Word → List ℕ
word_bytes (number n) = []
word_bytes (raw bs) = bs
word_bytes nothing = []

-- ---- ACK blocks are given as their bytes: one block, and for each round a gap and a block

-- how many integers stand there from a place on, at most `most`
unfoldable pub integers_in : ℕ → List ℕ → ℕ → ℕ
integers_in zero s at = 0
integers_in (suc most) s at = and_then (var_at s at) 0 (λ v next. suc (integers_in most s next))

unfoldable pub rounds_in : List ℕ → ℕ
rounds_in s = (integers_in (length s) s 0 - 1) / 2

-- ---- the bytes of a field, of a row, of a frame

unfoldable pub field_bytes : Field → Word → List ℕ
field_bytes var w = var_bytes (word_number w)
field_bytes or_none w = var_bytes (word_number w)
field_bytes at_most w = var_bytes (word_number w)
field_bytes bytes w = var_bytes (length (word_bytes w)) ++ word_bytes w
field_bytes rest w = word_bytes w
field_bytes (fixed k) w = word_bytes w
field_bytes num64 w = bytes_be 8 (word_number w)
field_bytes cid w = length (word_bytes w) ∷ word_bytes w
field_bytes ack_blocks w = var_bytes (rounds_in (word_bytes w)) ++ word_bytes w
field_bytes (const n) w = []
field_bytes absent w = []

-- a word for each field; fields that have none are not written
unfoldable pub row_bytes : List Field → List Word → List ℕ
row_bytes [] ws = []
row_bytes (f ∷ fs) [] = []
row_bytes (f ∷ fs) (w ∷ ws) = field_bytes f w ++ row_bytes fs ws

abbrev pub fields_of : Option Row → ℕ → List Field
fields_of none t = []
fields_of (some r) t = r.fields t

-- a frame of type t: its type, and its fields
unfoldable pub frame_bytes : List Row → ℕ → List Word → List ℕ
frame_bytes rows t ws = var_bytes t ++ row_bytes (fields_of (look rows t) t) ws
