-- What each case of the code's answers says, in document 01's numbers and values.
use Rattle.std.specs.Prelude.{ℕ, Option, Some, None, Result, Ok, Err}
use Rattle.coding.specs.Words.{Answer, no}
use Rattle.coding.specs.Refusals.{number_of}
use Rattle.coding.specs.declared.refusal.Refusal.{Refusal}
use Rattle.shared.specs.declared.kinds.FullNumber.{FullNumber}
use Rattle.ack.specs.Step.{Step, range, end, refused, Taken, unmoved}
use Rattle.ack.specs.declared.AckTaken.{AckTaken}

-- a round, and what follows it from its place and below its smallest number
unfoldable pub round_then : Result ℕ Refusal → ℕ → (ℕ → ℕ → Answer ℕ) → Answer ℕ
round_then (Ok smallest) next more = more next smallest
round_then (Err why) next more = no (number_of why)

unfoldable pub range_step_of : Result (Option (FullNumber × FullNumber)) Refusal → Step
range_step_of (Ok (Some (smallest, largest))) = range (record { smallest = smallest.0; largest = largest.0 })
range_step_of (Ok None) = end
range_step_of (Err why) = refused (number_of why)

unfoldable pub taken_of : AckTaken → Taken
taken_of t = record { step = range_step_of t.answer; largest = t.largest.0; next = t.next }

-- a step that may be refused, and then leaves the reader as it was
unfoldable pub tried_of : Result AckTaken Refusal → ℕ → ℕ → Taken
tried_of (Ok t) at largest = taken_of t
tried_of (Err why) at largest = unmoved (number_of why) at largest
