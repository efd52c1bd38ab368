-- Only one answer, and only one content of the lent buffer, meets the encoder's contract.
use mathlib.Core.List.{List}
use Prim.Native.Nat.{ℕ}
use Rattle.coding.specs.Once.{Once}
use Rattle.std.specs.Prelude.{Result}
use Rattle.coding.specs.declared.refusal.Refusal.{Refusal}
use Rattle.coding.proofs.Onces.{one_written}
use Rattle.ack_out.specs.contracts.ack as ack
use Rattle.ack_out.proofs.ack.Reads as ack_reads

ack_once : Once {B = Result ℕ Refusal × List ℕ} ack.ended ack_reads.Post (λ κs x s. (x, s.1.1.1.0.now))
unfolding Once
ack_once κs a x y s t p q = one_written _ _ x y _ _ p q
