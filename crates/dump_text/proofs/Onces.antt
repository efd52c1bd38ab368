-- Only one answer, and only one content of the lent buffer, meets the contract of the dump.
use mathlib.Core.List.{List}
use Prim.Native.Nat.{ℕ}
use Rattle.coding.specs.Once.{Once}
use Rattle.std.specs.Prelude.{Result}
use Rattle.coding.specs.declared.refusal.Refusal.{Refusal}
use Rattle.coding.proofs.Onces.{one_written}
use Rattle.dump_text.specs.contracts.dump as dump
use Rattle.dump_text.proofs.dump.Reads as dump_reads

dump_once : Once {B = Result ℕ Refusal × List ℕ} dump.ended dump_reads.Post (λ κs x s. (x, s.1.0.now))
unfolding Once
dump_once κs a x y s t p q = one_written _ _ x y _ _ p q
