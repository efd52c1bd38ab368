-- Only one answer meets the contract of each public function.
use mathlib.Core.Path.{◌∙◌, sym, ap}
use Prim.Native.Nat.{ℕ}
use Rattle.coding.specs.Once.{Once}
use Rattle.frame.proofs.Inverse.{read_one, step_one, sized_one}
use Rattle.frame.specs.contracts.kinds.Frame.ty as ty
use Rattle.frame.proofs.kinds.Frame.ty.Reads as ty_reads
use Rattle.frame.specs.contracts.kinds.Frame.is_ack_eliciting as is_ack_eliciting
use Rattle.frame.proofs.kinds.Frame.is_ack_eliciting.Reads as is_ack_eliciting_reads
use Rattle.frame.specs.contracts.read_frame as read_frame
use Rattle.frame.proofs.read_frame.Reads as read_frame_reads
use Rattle.frame.specs.contracts.step as step
use Rattle.frame.proofs.step.Reads as step_reads
use Rattle.frame.specs.contracts.next_with_size as next_with_size
use Rattle.frame.proofs.next_with_size.Reads as next_with_size_reads

ty_once : Once ty.ended ty_reads.Post (λ κs x s. x)
unfolding Once
ty_once κs a x y s t p q = ap (λ (n : ℕ). record { 0 = n }) (p ∙ sym q)

is_ack_eliciting_once : Once is_ack_eliciting.ended is_ack_eliciting_reads.Post (λ κs x s. x)
unfolding Once
is_ack_eliciting_once κs a x y s t p q = p ∙ sym q

read_frame_once : Once read_frame.ended read_frame_reads.Post (λ κs x s. x)
unfolding Once
read_frame_once κs a x y s t p q = read_one x y _ p q

step_once : Once step.ended step_reads.Post (λ κs x s. x)
unfolding Once
step_once κs a x y s t p q = step_one x y _ p q

next_with_size_once : Once next_with_size.ended next_with_size_reads.Post (λ κs x s. x)
unfolding Once
next_with_size_once κs a x y s t p q = sized_one x y _ p q
