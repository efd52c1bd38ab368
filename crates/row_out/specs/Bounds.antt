-- How long a frame can be, besides its data: frame.rs, SIZE_BOUND; document 01, "Encoders".
use Rattle.std.specs.Prelude.{ℕ, ◌+◌, List, [], ◌∷◌, length}
use Rattle.shared.specs.Cid.{max_cid}
use Rattle.coding.specs.Varint.{var_size}
use Rattle.frame.specs.Format.{Field, var, or_none, at_most, bytes, rest, fixed, num64, cid, ack_blocks, const, absent}
use Rattle.frame.specs.Table.{Row, look}
use Rattle.row_out.specs.Writing.{Word, word_bytes, fields_of}

-- the most bytes of a field: an integer has 8, and so has the length or the count of data; a connection id has 20, and its length byte
abbrev pub field_bound : Field → ℕ
field_bound var = 8
field_bound or_none = 8
field_bound at_most = 8
field_bound bytes = 8
field_bound rest = 0
field_bound (fixed n) = n
field_bound num64 = 8
field_bound cid = 1 + max_cid
field_bound ack_blocks = 8
field_bound (const n) = 0
field_bound absent = 0

abbrev pub fields_bound : List Field → ℕ
fields_bound [] = 0
fields_bound (f ∷ fs) = field_bound f + fields_bound fs

-- a frame of type t
unfoldable pub bound_of : List Row → ℕ → ℕ
bound_of rows t = var_size t + fields_bound (fields_of (look rows t) t)

-- how many bytes are data
abbrev pub data_bytes : Field → Word → ℕ
data_bytes var w = 0
data_bytes or_none w = 0
data_bytes at_most w = 0
data_bytes bytes w = length (word_bytes w)
data_bytes rest w = length (word_bytes w)
data_bytes (fixed n) w = 0
data_bytes num64 w = 0
data_bytes cid w = 0
data_bytes ack_blocks w = length (word_bytes w)
data_bytes (const n) w = 0
data_bytes absent w = 0

abbrev pub data_in : List Field → List Word → ℕ
data_in [] ws = 0
data_in (f ∷ fs) [] = 0
data_in (f ∷ fs) (w ∷ ws) = data_bytes f w + data_in fs ws
