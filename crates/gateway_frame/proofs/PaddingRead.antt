-- Where PADDING stands by its byte alone, the step of the walk reads it.
use Rattle.std.specs.Prelude.{if◌then◌else◌}
use mathlib.Core.Path.{◌≡◌, refl}
use mathlib.Core.List.{List}
use mathlib.Core.Bool.{Bool, true, false}
use Prim.Native.Nat.{ℕ, ◌+◌, ◌≤◌, ◌<◌}
use native.Mathlib.Omega.{arith}
use lib.ListN.{length}
use lib.Dec.{ltb, leb, eqb}
use borrow.Author.Tests.{le-ltb, lt-leb, ne_eqb, lt-ltb, le-leb, ltb-false, leb-false, eqb-true}
use Rattle.coding.specs.Words.{got, and_then}
use Rattle.coding.specs.Bytes.{byte_at, be}
use Rattle.coding.specs.Varint.{var_len, var_at}
use Rattle.frame.specs.Format.{fields_at}
use Rattle.frame.specs.Table.{table, frame_body_at, outcome, frame_at}
use Rattle.frame.specs.Walk.{step_at}
use Rattle.gateway_frame.specs.Frames.{frame_record, frame_for, is_padding, padding_record}

module _ (s : List ℕ) (at : ℕ) where
  -- the three tests
  pub record Stands : Type 0 where
    pub few : length s ≤ 65527
    pub inside : at < length s
    pub zero : byte_at s at ≡ 0

  pub stands : is_padding s at ≡ true → Stands
  unfolding is_padding
  stands = go (ltb 65527 (length s)) (leb (length s) at) refl refl
    where
      go : (a b : Bool) → ltb 65527 (length s) ≡ a → leb (length s) at ≡ b
          → (if a then false else if b then false else eqb (byte_at s at) 0) ≡ true → Stands
      go true b p q e = let z : ◌≡◌ {A = ℕ} 0 1 = cc in absurd (omega arith)
      go false true p q e = let z : ◌≡◌ {A = ℕ} 0 1 = cc in absurd (omega arith)
      go false false p q e =
          record { few = ltb-false 65527 (length s) p; inside = leb-false (length s) at q; zero = eqb-true (byte_at s at) 0 e }

  module _ (h : Stands) where
    type_read : var_at s at ≡ got 0 (at + 1)
    unfolding var_at var_len be
    type_read = rw (lt-ltb at (length s) h.inside, h.zero, le-leb (at + 1) (length s) (omega (arith, h.inside)))

    pub padding_read : padding_record at (at + 1) ≡ frame_for s at
    unfolding frame_for step_at frame_at and_then outcome frame_body_at table frame_record fields_at
    padding_read =
        rw (le-ltb 65527 (length s) h.few, ne_eqb (length s) 0 (λ e. omega (arith, e, h.inside)), lt-leb (length s) at h.inside, type_read)
