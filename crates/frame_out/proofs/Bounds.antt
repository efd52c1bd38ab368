-- A stream frame and a datagram of any type are no longer than the bound of their last type, besides the data. Of the other frames
-- `ReadBack` has it, in the field `short` of each law.
use mathlib.Core.Path.{◌≡◌, refl}
use mathlib.Core.List.{List, [], ◌∷◌, ◌++◌}
use mathlib.Core.Bool.{Bool, true, false}
use Prim.Native.Nat.{ℕ, ◌+◌, ◌-◌, ◌≤◌}
use native.Mathlib.Omega.{arith}
use lib.ListN.{length, length-append}
use lib.Dec.{eqb}
use Rattle.coding.specs.Words.{ok}
use Rattle.coding.specs.Varint.{var_tag, var_size}
use Rattle.frame.specs.Table.{table, look}
use Rattle.row_out.specs.Writing.{raw, fields_of}
use Rattle.row_out.specs.Bounds.{bound_of, data_in}
use Rattle.frame_out.specs.Frames.{stream_type, stream_words, meta_out, datagram_out}
use Rattle.frame_out.proofs.Vals.{type_by}
use Rattle.frame_out.proofs.ReadBack.{datagram_read, stream_read}

-- what the row of a type allows a stream of data d
abbrev allowed : ℕ → ℕ → ℕ → Bool → Bool → List ℕ → ℕ
allowed t id start fin len d = bound_of table t + data_in (fields_of (look table t) t) (stream_words id start fin len ++ (raw d ∷ []))

by_bits : (id start : ℕ) (d : List ℕ) (z fin len : Bool) → allowed (type_by z fin len) id start fin len d ≤ bound_of table 0x0f + length d
unfolding bound_of table stream_words var_size var_tag
by_bits id start d true true true = omega arith
by_bits id start d true true false = omega arith
by_bits id start d true false true = omega arith
by_bits id start d true false false = omega arith
by_bits id start d false true true = omega arith
by_bits id start d false true false = omega arith
by_bits id start d false false true = omega arith
by_bits id start d false false false = omega arith

pub stream_bound : (bs d : List ℕ) (id start end : ℕ) (fin len : Bool) → meta_out id start end fin len ≡ ok bs → length d ≡ end - start
    → length bs ≤ bound_of table 0x0f
unfolding stream_type
stream_bound bs d id start end fin len e n =
    let r = stream_read [] bs d [] id start end fin len e n (λ _. refl) in
    omega (arith, r.short, by_bits id start d (eqb start 0) fin len, length-append bs d)

pub datagram_bound : (bs d : List ℕ) (len : Bool) → datagram_out len d ≡ ok bs → length bs ≤ bound_of table 0x31 + length d
unfolding bound_of table var_size var_tag
datagram_bound bs d true e = omega (arith, (datagram_read [] bs [] true d e (λ _. refl)).short)
datagram_bound bs d false e = omega (arith, (datagram_read [] bs [] false d e (λ _. refl)).short)
