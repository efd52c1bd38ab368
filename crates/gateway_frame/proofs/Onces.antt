-- Only one answer meets the contract of each public function.
use mathlib.Core.Path.{◌∙◌, sym}
use Rattle.coding.specs.Once.{Once}
use Rattle.gateway_frame.specs.contracts.rows.FrameValueFromU64.from as number_from
use Rattle.gateway_frame.proofs.rows.FrameValueFromU64.from.Reads as number_from_reads
use Rattle.gateway_frame.specs.contracts.rows.FrameValueFromPlace.from as place_from
use Rattle.gateway_frame.proofs.rows.FrameValueFromPlace.from.Reads as place_from_reads
use Rattle.gateway_frame.specs.contracts.rows.FrameValueFromOptionFrameType.from as type_from
use Rattle.gateway_frame.proofs.rows.FrameValueFromOptionFrameType.from.Reads as type_from_reads
use Rattle.gateway_frame.specs.contracts.read as read
use Rattle.gateway_frame.proofs.read.Reads as read_reads
use Rattle.gateway_frame.specs.contracts.is_padding as is_padding
use Rattle.gateway_frame.proofs.is_padding.Reads as is_padding_reads
use Rattle.gateway_frame.specs.contracts.padding as padding
use Rattle.gateway_frame.proofs.padding.Reads as padding_reads

read_once : Once read.ended read_reads.Post (λ κs x s. x)
unfolding Once
read_once κs a x y s t p q = p ∙ sym q

is_padding_once : Once is_padding.ended is_padding_reads.Post (λ κs x s. x)
unfolding Once
is_padding_once κs a x y s t p q = p ∙ sym q

padding_once : Once padding.ended padding_reads.Post (λ κs x s. x)
unfolding Once
padding_once κs a x y s t p q = p ∙ sym q

number_from_once : Once number_from.ended number_from_reads.Post (λ κs x s. x)
unfolding Once
number_from_once κs a x y s t p q = p ∙ sym q

place_from_once : Once place_from.ended place_from_reads.Post (λ κs x s. x)
unfolding Once
place_from_once κs a x y s t p q = p ∙ sym q

type_from_once : Once type_from.ended type_from_reads.Post (λ κs x s. x)
unfolding Once
type_from_once κs a x y s t p q = p ∙ sym q
