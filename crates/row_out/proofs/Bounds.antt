-- What is written by a row is no longer than the row's bound, besides its data: proved once, over the list of fields.
use mathlib.Core.Path.{◌≡◌, refl}
use mathlib.Core.List.{List, [], ◌∷◌, ◌++◌}
use Prim.Native.Nat.{ℕ, ◌+◌, ◌≤◌}
use native.Mathlib.Omega.{arith}
use lib.ListN.{length, length-append}
use Rattle.coding.specs.Varint.{var_bytes}
use Rattle.coding.proofs.Laws.{length_bytes_be, length_var, size_le}
use Rattle.frame.specs.Format.{Value, Field, var, or_none, at_most, bytes, rest, fixed, num64, cid, ack_blocks, const, absent}
use Rattle.row_out.specs.Writing.{Word, word_number, word_bytes, rounds_in, field_bytes, row_bytes}
use Rattle.row_out.specs.Back.{Fits, value_at, WordsFit, word_read, words_read}
use Rattle.row_out.specs.Bounds.{field_bound, fields_bound, data_bytes, data_in}

field_bound_law : (f : Field) (w : Word) (seen : List Value) (q : List ℕ) → Fits f w seen q → length (field_bytes f w) ≤ field_bound f + data_bytes f w
unfolding field_bytes
field_bound_law var w seen q h = omega (arith, length_var (word_number w), size_le (word_number w) h)
field_bound_law or_none w seen q h = omega (arith, length_var (word_number w), size_le (word_number w) h)
field_bound_law at_most w seen q h = omega (arith, length_var (word_number w), size_le (word_number w) h.0)
field_bound_law bytes w seen q h = omega (arith, length-append (var_bytes (length (word_bytes w))) (word_bytes w), length_var (length (word_bytes w)), size_le (length (word_bytes w)) h)
field_bound_law rest w seen q h = omega arith
field_bound_law (fixed n) w seen q h = omega arith
field_bound_law num64 w seen q h = rw length_bytes_be (omega arith)
field_bound_law cid w seen q h = omega arith
field_bound_law ack_blocks w seen q h =
    omega (arith, length-append (var_bytes (rounds_in (word_bytes w))) (word_bytes w), length_var (rounds_in (word_bytes w)), size_le (rounds_in (word_bytes w)) h.0)
field_bound_law (const n) w seen q h = omega arith
field_bound_law absent w seen q h = omega arith

pub row_bound : (fs : List Field) (ws : List Word) (seen : List Value) (at : ℕ) (q : List ℕ) → WordsFit fs ws seen at q
    → length (row_bytes fs ws) ≤ fields_bound fs + data_in fs ws
unfolding row_bytes
row_bound [] [] seen at q h = omega arith
row_bound [] (w ∷ ws) seen at q h = absurd h
row_bound (f ∷ fs) [] seen at q h = absurd h
row_bound (f ∷ fs) (w ∷ ws) seen at q h =
    omega (
      arith,
      length-append (field_bytes f w) (row_bytes fs ws),
      field_bound_law f w seen (row_bytes fs ws ++ q) h.0,
      row_bound fs ws (value_at f w at ∷ seen) (at + length (field_bytes f w)) q h.1,
    )

-- the data that is read is the data that was written
data_same : (f : Field) (w : Word) → data_bytes f (word_read f w) ≡ data_bytes f w
data_same var w = refl
data_same or_none w = refl
data_same at_most w = refl
data_same bytes w = refl
data_same rest w = refl
data_same (fixed n) w = refl
data_same num64 w = refl
data_same cid w = refl
data_same ack_blocks w = refl
data_same (const n) w = refl
data_same absent w = refl

pub data_read : (fs : List Field) (ws : List Word) → data_in fs (words_read fs ws) ≡ data_in fs ws
data_read [] ws = refl
data_read (f ∷ fs) [] = refl
data_read (f ∷ fs) (w ∷ ws) = rw (data_same f w, data_read fs ws)
