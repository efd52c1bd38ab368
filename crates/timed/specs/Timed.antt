-- What the functions that bench/ times answer: the records over the definitions of the crates below.
use Rattle.std.specs.Prelude.{ℕ, zero, suc, ◌+◌, ◌*◌, ◌^◌, ◌≡◌, List, [], ◌∷◌, map, length, ltb, if◌then◌else◌, Result}
use Rattle.std.specs.Int.Bits.{bit_xor}
use Rattle.coding.specs.Words.{and_then, Answer, no, ok}
use Rattle.coding.specs.Said.{answer_of}
use Rattle.coding.specs.Varint.{var_at}
use Rattle.coding.specs.Writing.{in_room, length_of, into_buffer}
use Rattle.coding.specs.declared.refusal.Refusal.{Refusal}
use Rattle.shared.specs.declared.kinds.CutNumber.{CutNumber}
use Rattle.number.specs.Cutting.{cut, cut_made}
use Rattle.number.specs.Expanding.{expanded}
use Rattle.timed.specs.declared.GatheredAnswer.{GatheredAnswer}
use Rattle.timed.specs.declared.WriteAnswer.{WriteAnswer}

-- ---- answers one after the other

-- how many say a number and the exclusive or of all, behind those that are counted: up to the first refusal
unfoldable pub gathered_from : List (Answer ℕ) → ℕ → ℕ → GatheredAnswer
gathered_from [] count mixed = record { refusal = 0; count = count; mixed = mixed }
gathered_from (no k ∷ answers) count mixed = record { refusal = k; count = count; mixed = mixed }
gathered_from (ok v ∷ answers) count mixed = gathered_from answers (count + 1) (bit_xor mixed v)

unfoldable pub gathered : List (Answer ℕ) → GatheredAnswer
gathered answers = gathered_from answers 0 0

-- at most n integers from a place on: a cut one is 10
unfoldable pub vars_from : ℕ → List ℕ → ℕ → List (Answer ℕ)
vars_from zero s at = []
vars_from (suc n) s at = if ltb at (length s) then and_then (var_at s at) (no 10 ∷ []) (λ v next. ok v ∷ vars_from n s next) else []

-- all of a slice: each integer has a byte or more
unfoldable pub vars_of : List ℕ → List (Answer ℕ)
vars_of s = vars_from (length s) s 0

-- a cut number as one: its value in four bytes, and its length above them
unfoldable pub cut_said : Answer CutNumber → Answer ℕ
cut_said (no k) = no k
cut_said (ok c) = ok (c.1 + c.0 * 2 ^ 32)

-- packet numbers, each cut by the largest acknowledged
abbrev pub cuts_of : ℕ → List ℕ → List (Answer ℕ)
cuts_of acked ns = map (λ n. cut_said (cut_made n acked)) ns

-- cut ones of k bytes, each read back by the expected one
abbrev pub fulls_of : ℕ → ℕ → List ℕ → List (Answer ℕ)
fulls_of k expected vs = map (λ v. expanded (cut k v) expected) vs

-- what is answered of each item is what f says of it
abbrev pub Tells : {T : Type 0} → (T → Result ℕ Refusal → Type 0) → (T → Answer ℕ) → Type 0
Tells {T} post f = (x : T) (r : Result ℕ Refusal) → post x r → answer_of r ≡ f x

-- ---- writers

unfoldable pub write_record : Answer ℕ → WriteAnswer
write_record (no k) = record { refusal = k; len = 0 }
write_record (ok n) = record { refusal = 0; len = n }

-- a flag is 0 or 1, else 14
unfoldable pub flagged : ℕ → Answer (List ℕ) → Answer (List ℕ)
flagged flag w = if ltb 1 flag then no 14 else w

-- a writer of w into the buffer `old` answers r and leaves `new`
pub record Writes (w : Answer (List ℕ)) (old : List ℕ) (r : WriteAnswer) (new : List ℕ) : Type 0 where
  pub says : r ≡ write_record (length_of (in_room (length old) w))
  pub leaves : new ≡ into_buffer (in_room (length old) w) old
