-- Only one answer meets the contract of each public function, and of `add_assign` only one state of the counts too.
use mathlib.Core.Path.{◌∙◌, sym, refl}
use Rattle.std.specs.Prelude.{Result}
use Rattle.coding.specs.Once.{Once, OnceOf}
use Rattle.coding.specs.declared.refusal.Refusal.{Refusal}
use Rattle.coding.proofs.Inverse.{answer_one}
use Rattle.ecn.specs.declared.EcnCounts.{EcnCounts}
use Rattle.ecn.specs.contracts.EcnCounts.zero as zero
use Rattle.ecn.proofs.EcnCounts.zero.Reads as zero_reads
use Rattle.ecn.specs.contracts.EcnCounts.add_assign as add-assign
use Rattle.ecn.proofs.EcnCounts.add_assign.Reads as add_assign_reads
use Rattle.ecn.specs.contracts.raised as raised
use Rattle.ecn.proofs.raised.Reads as raised_reads

zero_once : Once zero.ended zero_reads.Post (λ κs x s. x)
unfolding Once
zero_once κs a x y s t p q = p ∙ sym q

add_assign_once : Once {B = Result Unit Refusal × EcnCounts} add-assign.ended add_assign_reads.Post (λ κs x s. (x, s.0.now))
unfolding Once
add_assign_once κs a x y s t p q i = (answer_one x y _ p.1 q.1 i, (p.0 ∙ sym q.0) i)

-- and at every model the `ensures` of `add_assign` is that claim
add_assign_once_of : OnceOf {B = Result Unit Refusal × EcnCounts} add-assign.ended (λ M 𝓤. add-assign.clauses) (λ κs x s. (x, s.0.now))
add_assign_once_of = record { claim = add_assign_reads.Post; is = λ M 𝓤 𝓛 mem run κs a g x s. refl; once = add_assign_once }

raised_once : Once raised.ended raised_reads.Post (λ κs x s. x)
unfolding Once
raised_once κs a x y s t p q i = ((p.0 ∙ sym q.0) i, answer_one x.1 y.1 _ p.1 q.1 i)
