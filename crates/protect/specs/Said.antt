-- What each case of the code's arguments and answers says, in document 01's numbers and values.
use Rattle.std.specs.Prelude.{ℕ, Bool, true, false, Option, Some, None, Result, Ok, Err}
use Rattle.std.proofs.Math.Option as math
use Rattle.coding.specs.Words.{Answer, no, ok}
use Rattle.coding.specs.Refusals.{number_of}
use Rattle.coding.specs.declared.Place.{Place}
use Rattle.coding.specs.declared.refusal.Refusal.{Refusal}
use Rattle.protect.specs.Steps.{Opened, unnumbered, long, short}
use Rattle.protect.specs.declared.Kind.{Kind}
use Rattle.protect.specs.declared.Kind.TheVariants as kind
use Rattle.protect.specs.declared.Finished.{Finished}
use Rattle.protect.specs.declared.Finished.TheVariants as fin

-- the long kinds, and those with a packet number (RFC 9000, 17)
abbrev pub long_header : Kind → Bool
long_header kind.Initial = true
long_header kind.ZeroRtt = true
long_header kind.Handshake = true
long_header kind.Retry = true
long_header kind.Short = false
long_header kind.VersionNegotiate = true

abbrev pub numbered_of : Kind → Bool
numbered_of kind.Initial = true
numbered_of kind.ZeroRtt = true
numbered_of kind.Handshake = true
numbered_of kind.Retry = false
numbered_of kind.Short = true
numbered_of kind.VersionNegotiate = false

abbrev pub number_len_of : Option ℕ → math.Option ℕ
number_len_of (Some k) = math.some k
number_len_of None = math.none

unfoldable pub sample_of : Result (Option Place) Refusal → Answer (math.Option Place)
sample_of (Ok (Some place)) = ok (math.some place)
sample_of (Ok None) = ok math.none
sample_of (Err why) = no (number_of why)

unfoldable pub opened_of : Finished → Opened
opened_of (fin.Long number clear) = long number.0 number.1 clear
opened_of (fin.Short number clear phase) = short number.0 number.1 clear phase

unfoldable pub opens_of : Result Finished Refusal → Answer Opened
opens_of (Ok finished) = ok (opened_of finished)
opens_of (Err why) = no (number_of why)

unfoldable pub finished_of : Result (Option Finished) Refusal → Answer Opened
finished_of (Ok (Some finished)) = ok (opened_of finished)
finished_of (Ok None) = ok unnumbered
finished_of (Err why) = no (number_of why)
