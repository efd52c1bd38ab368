-- What each case of the code's answers says, in document 01's numbers and values.
use Rattle.std.specs.Prelude.{ℕ, Option, Some, None, Result, Ok, Err, eqb, if◌then◌else◌}
use Rattle.coding.specs.Words.{Answer, no, ok}
use Rattle.coding.specs.Refusals.{number_of}
use Rattle.coding.specs.declared.refusal.Refusal.{Refusal}
use Rattle.shared.specs.declared.kinds.CutNumber.{CutNumber}
use Rattle.shared.specs.declared.kinds.FullNumber.{FullNumber}
use Rattle.number.specs.Ends.{SoFar, none, at, Ends, Packet, Call, refused, done}
use Rattle.number.specs.declared.ends.Space.{Space}

-- a length in bytes, where 0 is none
abbrev pub fitting : ℕ → Option ℕ
fitting k = if eqb k 0 then None else Some k

unfoldable pub full_of : Result FullNumber Refusal → Answer ℕ
full_of (Ok n) = ok n.0
full_of (Err why) = no (number_of why)

unfoldable pub so_far_of : Option FullNumber → SoFar
so_far_of None = none
so_far_of (Some m) = at m.0

abbrev pub ends_of : Space → Ends
ends_of s = record { next = s.next.0; acked = so_far_of s.acked; largest = so_far_of s.largest }

-- an answer, and the record afterwards
unfoldable pub sent_of : Result (FullNumber × CutNumber) Refusal → Space → Call Packet
sent_of (Ok (n, c)) s = done (record { number = n.0; carries = c }) (ends_of s)
sent_of (Err why) s = refused (number_of why) (ends_of s)

unfoldable pub kept_of : Result Unit Refusal → Space → Call Unit
kept_of (Ok u) s = done tt (ends_of s)
kept_of (Err why) s = refused (number_of why) (ends_of s)
