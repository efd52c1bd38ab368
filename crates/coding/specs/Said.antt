-- What each answer of the code says, in document 01's numbers and values.
use Rattle.std.specs.Prelude.{ℕ, ◌≡◌, Result, Ok, Err}
use Rattle.coding.specs.Words.{Got, cut, got, Answer, no, ok}
use Rattle.coding.specs.Refusals.{number_of}
use Rattle.coding.specs.declared.reader.Reader.{Reader}
use Rattle.coding.specs.declared.refusal.Refusal.{Refusal}
use Rattle.coding.specs.declared.varint.VarInt.{VarInt}

-- a value by what f says of it, and the place past it; or that the field is cut
unfoldable pub found_by : {A B E : Type 0} → (A → B) → Result A E → ℕ → Got B
found_by f (Ok x) next = got (f x) next
found_by f (Err e) next = cut

-- a read finds `found`, as f says it, and the reader stands past it; where the field is cut, it stays where it stood
pub record Reads {A B E : Type 0} (f : A → B) (found : Got B) (old : Reader) (r : Result A E) (new : Reader) : Type 0 where
  pub finds : found_by f r new.at ≡ found
  pub bytes : new.bytes ≡ old.bytes
  pub stays : found ≡ cut → new.at ≡ old.at

-- an integer's value
abbrev pub var_value : VarInt → ℕ
var_value x = x.0

unfoldable pub answer_of : {A : Type 0} → Result A Refusal → Answer A
answer_of (Ok a) = ok a
answer_of (Err why) = no (number_of why)

unfoldable pub made_of : Result VarInt Refusal → Answer ℕ
made_of (Ok x) = ok x.0
made_of (Err why) = no (number_of why)
