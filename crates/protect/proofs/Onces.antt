-- Only one answer, and only one content of a lent packet, meets the contract of each public function.
use mathlib.Core.Path.{◌∙◌, sym}
use mathlib.Core.List.{List}
use Prim.Native.Nat.{ℕ}
use Rattle.coding.specs.Once.{Once}
use Rattle.coding.proofs.Onces.{seen, one_part}
use Rattle.std.specs.Prelude.{Option, Result}
use Rattle.coding.specs.declared.refusal.Refusal.{Refusal}
use Rattle.coding.proofs.Inverse.{answer_one}
use Rattle.protect.specs.declared.Finished.{Finished}
use Rattle.protect.proofs.Inverse.{sample_one, finished_one}
use Rattle.protect.specs.contracts.Kind.is_long as is_long
use Rattle.protect.proofs.Kind.is_long.Reads as is_long_reads
use Rattle.protect.specs.contracts.Kind.has_number as has_number
use Rattle.protect.proofs.Kind.has_number.Reads as has_number_reads
use Rattle.protect.specs.contracts.sample_place as sample_place
use Rattle.protect.proofs.sample_place.Reads as sample_place_reads
use Rattle.protect.specs.contracts.finish as finish
use Rattle.protect.proofs.finish.Reads as finish_reads
use Rattle.protect.specs.contracts.bytes_of as bytes_of
use Rattle.protect.proofs.bytes_of.Reads as bytes_of_reads
use Rattle.protect.specs.contracts.header_part as header_part
use Rattle.protect.proofs.header_part.Reads as header_part_reads
use Rattle.protect.specs.contracts.payload_part as payload_part
use Rattle.protect.proofs.payload_part.Reads as payload_part_reads
use Rattle.protect.specs.contracts.header_tests as header_tests
use Rattle.protect.proofs.header_tests.Reads as header_tests_reads
use Rattle.protect.specs.contracts.mask as mask
use Rattle.protect.proofs.mask.Reads as mask_reads

is_long_once : Once is_long.ended is_long_reads.Post (λ κs x s. x)
unfolding Once
is_long_once κs a x y s t p q = p ∙ sym q

has_number_once : Once has_number.ended has_number_reads.Post (λ κs x s. x)
unfolding Once
has_number_once κs a x y s t p q = p ∙ sym q

sample_place_once : Once sample_place.ended sample_place_reads.Post (λ κs x s. x)
unfolding Once
sample_place_once κs a x y s t p q = sample_one x y _ p q

finish_once : Once {B = Result (Option Finished) Refusal × List ℕ} finish.ended finish_reads.Post (λ κs x s. (x, s.1.0.now))
unfolding Once
finish_once κs a x y s t p q i = (finished_one x y _ p.says q.says i, (p.leaves ∙ sym q.leaves) i)

bytes_of_once : Once bytes_of.ended bytes_of_reads.Post (λ κs x s. x)
unfolding Once
bytes_of_once κs a x y s t p q = p ∙ sym q

header_part_once : Once header_part.ended header_part_reads.Post (λ κs x s. seen x)
unfolding Once
header_part_once κs a x y s t p q = one_part _ x y _ _ p q

payload_part_once : Once payload_part.ended payload_part_reads.Post (λ κs x s. seen x)
unfolding Once
payload_part_once κs a x y s t p q = one_part _ x y _ _ p q

header_tests_once : Once header_tests.ended header_tests_reads.Post (λ κs x s. x)
unfolding Once
header_tests_once κs a x y s t p q = p ∙ sym q

mask_once : Once {B = Result Unit Refusal × List ℕ} mask.ended mask_reads.Post (λ κs x s. (x, s.1.1.1.0.now))
unfolding Once
mask_once κs a x y s t p q i = (answer_one x y _ p.says q.says i, (p.leaves ∙ sym q.leaves) i)
