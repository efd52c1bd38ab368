-- What a proof cites of the definitions and the library.
use mathlib.Core.Path.{◌≡◌, refl, sym}
use mathlib.Core.Bool.{Bool, true, false, not, ◌&&◌, false≢true}
use mathlib.Core.List.{List, [], ◌∷◌}
use Prim.Native.Nat.{ℕ, ◌+◌, ◌-◌, ◌*◌, ◌/◌, ◌%◌, ◌≤◌}
use native.Mathlib.Omega.{arith}
use lib.Dec.{eqb}
use lib.ListN.{length, take, drop, length-drop}
use lib.Seq.{take_all}
use Rattle.std.specs.List.{list_any}
use Rattle.coding.specs.Words.{no}
use Rattle.coding.specs.Refusals.{number_of}
use Rattle.packet.specs.Header.{listed}
use Rattle.packet.specs.Said.{error_of, unlisted}
use Rattle.packet.specs.declared.error.PacketDecodeError.{PacketDecodeError}
use Rattle.packet.specs.declared.error.PacketDecodeError.TheVariants as error

-- the bits below the form bit, by the two halves of a byte
pub low_seven : (b : ℕ) → b % 128 ≡ b / 16 % 8 * 16 + b % 16
low_seven b = omega arith

-- the slice from a place on
pub from_on : (s : List ℕ) (at : ℕ) → at ≤ length s → take (length s - at) (drop at s) ≡ drop at s
from_on s at h = take_all (length s - at) (drop at s) (simp length-drop (omega arith))

-- a search of the list
pub any_listed : (v : ℕ) (versions : List ℕ) → list_any (λ x. eqb x v) versions ≡ listed versions v
unfolding listed
any_listed v [] = refl
any_listed v (x ∷ versions) = rw (any_listed v versions)

-- an error says no
pub error_says : (e : PacketDecodeError) → (k : ℕ) × ((error_of e).said ≡ no k)
error_says (error.UnsupportedVersion dst src version) = (4, refl)
error_says (error.Refused why) = (number_of why, refl)

-- and has no end
pub error_ends : (e : PacketDecodeError) → (error_of e).end ≡ 0
error_ends (error.UnsupportedVersion dst src version) = refl
error_ends (error.Refused why) = refl

-- a version that can't be read is not 0, and not listed
pub unlisted_is : (versions : List ℕ) (v : ℕ) → unlisted versions v ≡ true → (eqb v 0 ≡ false) × (listed versions v ≡ false)
unlisted_is versions v = go (eqb v 0) (listed versions v)
  where
    go : (a b : Bool) → not a && not b ≡ true → (a ≡ false) × (b ≡ false)
    go false false e = (refl, refl)
    go false true e = absurd (false≢true e)
    go true b e = absurd (false≢true e)

-- and one that can, and is not 0, is listed
pub listed_is : (versions : List ℕ) (v : ℕ) → unlisted versions v ≡ false → (eqb v 0 ≡ false) → listed versions v ≡ true
listed_is versions v = go (eqb v 0) (listed versions v)
  where
    go : (a b : Bool) → not a && not b ≡ false → a ≡ false → b ≡ true
    go false false e f = absurd (false≢true (sym e))
    go false true e f = refl
    go true b e f = absurd (false≢true (sym f))
