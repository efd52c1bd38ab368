-- Each map from the code's answers to the paper's words has an inverse: what is said settles the answer.
use Rattle.std.specs.Prelude.{Option, Some, None, Result, Ok, Err}
use mathlib.Core.Path.{◌≡◌, refl, ap}
use Rattle.coding.specs.declared.refusal.Refusal.{Refusal}
use Rattle.coding.proofs.Numbers.{refusal_of, refusal_back}
use Rattle.coding.proofs.Inverse.{one_by}
use Rattle.shared.specs.declared.kinds.FullNumber.{FullNumber}
use Rattle.ack.specs.Step.{Step, range, end, refused, Taken}
use Rattle.ack.specs.Said.{range_step_of, taken_of}
use Rattle.ack.specs.declared.AckTaken.{AckTaken}

-- the answer that a step says
abbrev pub unsaid : Step → Result (Option (FullNumber × FullNumber)) Refusal
unsaid (range r) = Ok (Some (record { 0 = r.smallest }, record { 0 = r.largest }))
unsaid end = Ok None
unsaid (refused k) = Err (refusal_of k)

pub step_back : (a : Result (Option (FullNumber × FullNumber)) Refusal) → unsaid (range_step_of a) ≡ a
unfolding range_step_of
step_back (Ok (Some (smallest, largest))) = refl
step_back (Ok None) = refl
step_back (Err why) = ap Err (refusal_back why)

pub step_one : (x y : Result (Option (FullNumber × FullNumber)) Refusal) (s : Step) → range_step_of x ≡ s → range_step_of y ≡ s → x ≡ y
step_one = one_by range_step_of unsaid step_back

pub taken_one : (x y : AckTaken) (t : Taken) → taken_of x ≡ t → taken_of y ≡ t → x ≡ y
unfolding taken_of
taken_one =
    one_by taken_of (λ t. record { answer = unsaid t.step; largest = record { 0 = t.largest }; next = t.next })
    (λ a i. record { answer = step_back a.answer i; largest = a.largest; next = a.next })
