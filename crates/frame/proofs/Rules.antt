-- For the goals of a run of reads: what the exit of a `?` says, and a field that goes by a bit of the type as the code reads it.
use Rattle.std.specs.Prelude.{if◌then◌else◌, Result}
use Rattle.std.specs.Result.{IsErr, IsErrAnd}
use mathlib.Core.Path.{◌≡◌, refl}
use Prim.Native.Nat.{ℕ}
use mathlib.Core.Bool.{Bool, true, false}
use mathlib.Core.List.{List}
use Rattle.coding.specs.Words.{cut, and_then}
use Rattle.coding.specs.Said.{found_by}
use Rattle.coding.specs.Refusals.{number_of}
use Rattle.coding.specs.declared.Place.{Place}
use Rattle.coding.specs.declared.refusal.Refusal.{Refusal}
use Rattle.coding.specs.declared.refusal.UnexpectedEnd.{UnexpectedEnd}
use Rattle.ack.proofs.Tries.{out}
use Rattle.frame.specs.declared.kinds.Frame.{Frame}
use Rattle.frame.specs.Format.{Value, num, place, Said, var, bytes, rest, const, Read, refuse, field_at, var_if, data_if}
use Rattle.frame.specs.Said.{field_of, body_of}

pub exit_field : (r : Result Place Refusal) (why : Refusal) (next : ℕ) → IsErr r × IsErrAnd r (λ e. e ≡ why) → field_of r next ≡ refuse (number_of why)
unfolding field_of
exit_field r why next i = rw (out r why i)

pub exit_body : (r : Result Frame Refusal) (why : Refusal) (next : ℕ) → IsErr r × IsErrAnd r (λ e. e ≡ why) → body_of r next ≡ refuse (number_of why)
unfolding body_of
exit_body r why next i = rw (out r why i)

pub exit_found : {A B : Type 0} (f : A → B) (r : Result A UnexpectedEnd) (end : UnexpectedEnd) (next : ℕ) → IsErr r × IsErrAnd r (λ e. e ≡ end) → found_by f r next ≡ cut
unfolding found_by
exit_found f r end next i = rw (out r end i)

module _ (s : List ℕ) (at : ℕ) (seen : List Value) (next : Value → ℕ → Read Said) where
  pub var_if_law : (b : Bool) → field_at (if b then var else const 0) s at seen next ≡ and_then (var_if b s at) (refuse 10) (λ v n. next (num v) n)
  unfolding field_at var_if and_then
  var_if_law true = refl
  var_if_law false = refl

  pub data_if_law : (b : Bool) → field_at (if b then bytes else rest) s at seen next ≡ and_then (data_if b s at) (refuse 10) (λ p n. next (place p) n)
  unfolding field_at data_if
  data_if_law true = refl
  data_if_law false = refl
