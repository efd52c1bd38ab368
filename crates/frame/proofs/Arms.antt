-- The arms of the decision that have a range of numbers, and the last one.
use Prim.Native.Nat.{ℕ, ◌≤◌, ◌<◌}
use native.Mathlib.Omega.{arith}
use mathlib.Core.List.{List, [], ◌∷◌}
use mathlib.Core.Path.{◌≡◌, refl, ap, ◌∙◌}
use mathlib.Core.Option.{Option}
use borrow.Author.Tests.{le-leb, lt-leb}
use Rattle.frame.specs.Format.{refuse, fields_at}
use Rattle.frame.specs.Table.{Row, look, table, frame_body_at, read_row, from_to, stream_fields, data_fields}
use Rattle.frame.proofs.Look.{Apart, others, look_others}

-- the numbers of the arms that have one
abbrev pub keys : List ℕ
keys =
    0x00 ∷ 0x01 ∷ 0x02 ∷ 0x03 ∷ 0x04 ∷ 0x05 ∷ 0x06 ∷ 0x07 ∷ 0x10 ∷ 0x11 ∷ 0x12 ∷ 0x13 ∷ 0x14 ∷ 0x15 ∷ 0x16 ∷ 0x17 ∷ 0x18 ∷ 0x19 ∷ 0x1a ∷ 0x1b ∷ 0x1c ∷ 0x1d ∷ 0x1e ∷ 0x1f ∷ 0xaf ∷ []

left : others keys table ≡ from_to 0x08 0x0f stream_fields ∷ from_to 0x30 0x31 data_fields ∷ []
unfolding table
left = refl

module _ (t : ℕ) (s : List ℕ) (at : ℕ) (apart : Apart Unit keys t) where
  two : frame_body_at table t s at ≡ read_row (look (from_to 0x08 0x0f stream_fields ∷ from_to 0x30 0x31 data_fields ∷ []) t) t s at
  unfolding frame_body_at
  two = ap (λ (r : Option Row). read_row r t s at) (look_others keys t apart table ∙ ap (λ (rs : List Row). look rs t) left)

  pub stream_arm : 0x08 ≤ t → t ≤ 0x0f → frame_body_at table t s at ≡ fields_at 0x08 (stream_fields t) s at []
  stream_arm h k = two ∙ rw (le-leb 0x08 t h, le-leb t 0x0f k)

  pub datagram_arm : 0x30 ≤ t → t ≤ 0x31 → frame_body_at table t s at ≡ fields_at 0x30 (data_fields t) s at []
  datagram_arm h k = two ∙ rw (le-leb 0x08 t (omega arith), lt-leb t 0x0f (omega arith), le-leb 0x30 t h, le-leb t 0x31 k)

  pub between_arm : 0x0f < t → t < 0x30 → frame_body_at table t s at ≡ refuse 11
  between_arm h k = two ∙ rw (le-leb 0x08 t (omega arith), lt-leb t 0x0f h, lt-leb 0x30 t k)

  pub above_arm : 0x31 < t → frame_body_at table t s at ≡ refuse 11
  above_arm h = two ∙ rw (le-leb 0x08 t (omega arith), lt-leb t 0x0f (omega arith), le-leb 0x30 t (omega arith), lt-leb t 0x31 h)
