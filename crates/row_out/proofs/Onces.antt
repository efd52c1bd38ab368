-- Only one answer, and only one content of a lent buffer, meets the contract of each public function.
use mathlib.Core.List.{List}
use Prim.Native.Nat.{ℕ}
use Rattle.coding.specs.Once.{Once}
use Rattle.std.specs.Prelude.{Result}
use Rattle.coding.specs.declared.refusal.Refusal.{Refusal}
use Rattle.coding.proofs.Inverse.{answer_one}
use Rattle.coding.proofs.Onces.{one_put, one_written}
use Rattle.row_out.specs.contracts.vars_len as vars_len
use Rattle.row_out.proofs.vars_len.Reads as vars_len_reads
use Rattle.row_out.specs.contracts.put_vars as put_vars
use Rattle.row_out.proofs.put_vars.Reads as put_vars_reads
use Rattle.row_out.specs.contracts.frame_size as frame_size
use Rattle.row_out.proofs.frame_size.Reads as frame_size_reads
use Rattle.row_out.specs.contracts.frame_of as frame_of
use Rattle.row_out.proofs.frame_of.Reads as frame_of_reads

vars_len_once : Once vars_len.ended vars_len_reads.Post (λ κs x s. x)
unfolding Once
vars_len_once κs a x y s t p q = answer_one x y _ p q

put_vars_once : Once {B = ℕ × List ℕ} put_vars.ended put_vars_reads.Post (λ κs x s. (x, s.0.now))
unfolding Once
put_vars_once κs a x y s t p q = one_put _ _ _ x y _ _ p q

frame_size_once : Once frame_size.ended frame_size_reads.Post (λ κs x s. x)
unfolding Once
frame_size_once κs a x y s t p q = answer_one x y _ p q

frame_of_once : Once {B = Result ℕ Refusal × List ℕ} frame_of.ended frame_of_reads.Post (λ κs x s. (x, s.1.1.0.now))
unfolding Once
frame_of_once κs a x y s t p q = one_written _ _ x y _ _ p q
