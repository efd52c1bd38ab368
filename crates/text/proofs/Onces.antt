-- Only one answer, and only one content of a lent buffer, meets the contract of each public function.
use mathlib.Core.List.{List}
use Prim.Native.Nat.{ℕ}
use Rattle.coding.specs.Once.{Once}
use Rattle.coding.proofs.Onces.{one_put}
use Rattle.text.specs.contracts.put_decimal as put_decimal
use Rattle.text.proofs.put_decimal.Reads as put_decimal_reads
use Rattle.text.specs.contracts.put_hex as put_hex
use Rattle.text.proofs.put_hex.Reads as put_hex_reads
use Rattle.text.specs.contracts.put_hex_or as put_hex_or
use Rattle.text.proofs.put_hex_or.Reads as put_hex_or_reads

put_decimal_once : Once {B = ℕ × List ℕ} put_decimal.ended put_decimal_reads.Post (λ κs x s. (x, s.0.now))
unfolding Once
put_decimal_once κs a x y s t p q = one_put _ _ _ x y _ _ p q

put_hex_once : Once {B = ℕ × List ℕ} put_hex.ended put_hex_reads.Post (λ κs x s. (x, s.0.now))
unfolding Once
put_hex_once κs a x y s t p q = one_put _ _ _ x y _ _ p q

put_hex_or_once : Once {B = ℕ × List ℕ} put_hex_or.ended put_hex_or_reads.Post (λ κs x s. (x, s.0.now))
unfolding Once
put_hex_or_once κs a x y s t p q = one_put _ _ _ x y _ _ p q
