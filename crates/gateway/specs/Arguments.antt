-- Arguments and answers as numbers: a flag is 0 or 1 (frame/specs/Table `flag`), a kind of header 0 Initial, 1 0-RTT,
-- 2 Handshake, 3 Retry, 4 short, 5 Version Negotiation (as packet's kind_of has them). What is past these is 14.
use Rattle.std.specs.Prelude.{ℕ, ◌≡◌, Bool, true, false, not, ◌||◌, ltb, eqb, if◌then◌else◌, Result, Ok, Err, Some, None}
use Rattle.std.specs.Prelude.{Option as Maybe}
use Rattle.std.proofs.Math.Option.{Option, none, some}
use Rattle.coding.specs.Refusals.{number_of}
use Rattle.coding.specs.declared.refusal.Refusal.{Refusal}
use Rattle.coding.specs.declared.refusal.Refusal.TheVariants as refusal
use Rattle.protect.specs.declared.Kind.{Kind}
use Rattle.protect.specs.declared.Kind.TheVariants as kind

-- RFC 9000, 17: all but the short header are long; Retry and Version Negotiation have no packet number
unfoldable pub long_kind : ℕ → Bool
long_kind kind = not (eqb kind 4)

unfoldable pub numbered_kind : ℕ → Bool
numbered_kind kind = ltb kind 3 || eqb kind 4

-- the kind itself; a number past 5 has no packet number either
unfoldable pub kind_at : ℕ → Kind
kind_at k =
    if eqb k 0 then kind.Initial else
    if eqb k 1 then kind.ZeroRtt else
    if eqb k 2 then kind.Handshake else
    if eqb k 3 then kind.Retry else
    if eqb k 4 then kind.Short else
    kind.VersionNegotiate

-- and back
abbrev pub kind_number : Kind → ℕ
kind_number kind.Initial = 0
kind_number kind.ZeroRtt = 1
kind_number kind.Handshake = 2
kind_number kind.Retry = 3
kind_number kind.Short = 4
kind_number kind.VersionNegotiate = 5

-- a number's length, of which 0 says that there is no number
abbrev pub number_given : ℕ → Option ℕ
number_given len = if eqb len 0 then none else some len

-- a record's number of a refusal; 0 is none
abbrev pub code_of : Maybe Refusal → ℕ
code_of None = 0
code_of (Some why) = number_of why

-- an argument x is taken for what it says, or it is outside its rule
abbrev pub Takes : {A B : Type 0} → (A → B) → B → Bool → Result A Refusal → Type 0
Takes says x outside (Ok a) = (outside ≡ false) × (x ≡ says a)
Takes says x outside (Err why) = (outside ≡ true) × (why ≡ refusal.Argument)
