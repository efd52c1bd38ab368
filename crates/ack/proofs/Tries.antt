-- For the goals of a function with a `?`: what the call before it answered, and what its exit answers.
use Rattle.std.specs.Prelude.{Result, Ok, Err}
use Rattle.std.proofs.Common.{Continue, Break}
use Rattle.std.specs.Result.{IsErr, IsErrAnd, result_from_control_flow}
use Rattle.std.proofs.lemmas.Result.{err_from_is_err_and}
use mathlib.Core.Path.{◌≡◌}
use Rattle.coding.specs.Words.{no}
use Rattle.coding.specs.Refusals.{number_of}
use Rattle.coding.specs.Said.{answer_of}
use Rattle.coding.specs.declared.refusal.Refusal.{Refusal}

-- where the `?` of an answer r goes on, r was a value; where it leaves, an error
module _ {A E : Type 0} (r : Result A E) (b : _) (g : r ≡ result_from_control_flow b) where
  pub went : (a : A) → b ≡ Continue a → r ≡ Ok a
  went a q = rw q at g

  pub left : (h : _) → b ≡ Break h → r ≡ Err h.0
  left h q = rw q at g

-- what the exit of a `?` answers
pub out : {A E : Type 0} (r : Result A E) (e : E) → IsErr r × IsErrAnd r (λ d. d ≡ e) → r ≡ Err e
out r e i = let p = err_from_is_err_and r i.1 in rw (p.1, p.2)

pub exit_answer : {A : Type 0} (r : Result A Refusal) (why : Refusal) → IsErr r × IsErrAnd r (λ e. e ≡ why) → answer_of r ≡ no (number_of why)
unfolding answer_of
exit_answer r why i = rw (out r why i)
