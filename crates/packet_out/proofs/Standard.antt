-- A header with a Length and no token, whichever of the two.
use Prim.Native.Nat.{ℕ, ◌+◌}
use mathlib.Core.Path.{◌≡◌, refl}
use mathlib.Core.Bool.{true, false}
use mathlib.Core.Option.{some}
use Rattle.shared.specs.declared.kinds.CutNumber.{CutNumber}
use Rattle.number.specs.Cutting.{length_bits}
use Rattle.packet.specs.TypeBits.{bits_of}
use Rattle.packet.specs.Said.{long_type_of}
use Rattle.packet.specs.declared.header.LongType.{LongType}
use Rattle.packet.specs.declared.header.LongType.TheVariants as ty
use Rattle.packet.specs.declared.header.LongHeaderType.TheVariants as kind
use Rattle.packet_out.specs.Encoding.{plain_number, long_first, long_shape, shape_by}
use Rattle.packet_out.specs.Said.{written_long}

pub long_number : (ty : LongType) (c : CutNumber) (v : ℕ) → plain_number (written_long ty c v) ≡ some c
long_number ty.Handshake c v = refl
long_number ty.ZeroRtt c v = refl

pub long_shape_law : (ty : LongType) (c : CutNumber) (v : ℕ)
    → shape_by bits_of (written_long ty c v) ≡ long_shape (long_first (bits_of v (long_type_of (kind.Standard ty))) + length_bits c) v false true
long_shape_law ty.Handshake c v = refl
long_shape_law ty.ZeroRtt c v = refl
