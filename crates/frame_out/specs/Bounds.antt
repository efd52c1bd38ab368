-- The bounds that the source gives: frame.rs, SIZE_BOUND; document 01, "Encoders".
use Rattle.std.specs.Prelude.{ℕ, List, [], ◌∷◌, map}
use Rattle.frame.specs.Table.{table}
use Rattle.row_out.specs.Bounds.{bound_of}

-- each is its row's, and of a row with several types that of the last, which has all the fields: the two closes, STREAM, CRYPTO,
-- RESET_STREAM, STOP_SENDING, NEW_CONNECTION_ID, DATAGRAM
unfoldable pub size_bounds : List ℕ
size_bounds = map (bound_of table) (0x1c ∷ 0x1d ∷ 0x0f ∷ 0x06 ∷ 0x04 ∷ 0x05 ∷ 0x18 ∷ 0x31 ∷ [])
