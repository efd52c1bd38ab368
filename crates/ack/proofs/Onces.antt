-- Only one answer meets the contract of each public function.
use Rattle.coding.specs.Once.{Once}
use Rattle.coding.proofs.Inverse.{answer_one}
use Rattle.ack.proofs.Inverse.{taken_one}
use Rattle.ack.specs.contracts.scan_ack_blocks as scan_ack_blocks
use Rattle.ack.proofs.scan_ack_blocks.Reads as scan_ack_blocks_reads
use Rattle.ack.specs.contracts.ack_step as ack_step
use Rattle.ack.proofs.ack_step.Reads as ack_step_reads

scan_ack_blocks_once : Once scan_ack_blocks.ended scan_ack_blocks_reads.Post (λ κs x s. x)
unfolding Once
scan_ack_blocks_once κs a x y s t p q = answer_one x y _ p q

ack_step_once : Once ack_step.ended ack_step_reads.Post (λ κs x s. x)
unfolding Once
ack_step_once κs a x y s t p q = taken_one x y _ p q
