-- Only one answer meets the contract of each public function, and of `next` only one state of the reader too.
use Prim.Native.Nat.{ℕ}
use mathlib.Core.Path.{◌∙◌, sym, refl}
use mathlib.Core.List.{List}
use Rattle.std.specs.Prelude.{Option, Result}
use Rattle.coding.specs.Once.{Once, OnceOf}
use Rattle.coding.specs.declared.refusal.Refusal.{Refusal}
use Rattle.shared.specs.declared.kinds.FullNumber.{FullNumber}
use Rattle.ack.proofs.Inverse.{step_one}
use Rattle.ack_iter.specs.declared.AckIter.{AckIter}
use Rattle.ack_iter.specs.contracts.AckIter.new as new
use Rattle.ack_iter.proofs.AckIter.new.Reads as new_reads
use Rattle.ack_iter.specs.contracts.AckIter.next as next
use Rattle.ack_iter.proofs.AckIter.next.Reads as next_reads
use Rattle.ack_iter.specs.contracts.nth_range as nth_range
use Rattle.ack_iter.proofs.nth_range.Reads as nth_range_reads

-- the whole reader, its reference too: `new` hands back the reference that it got
new_once : Once new.ended new_reads.Post (λ κs x s. x)
unfolding Once
new_once κs a x y s t p q i = record { largest = (p.0 ∙ sym q.0) i; «data» = (p.1 ∙ sym q.1) i }

-- of the reader a caller sees the largest number, where its slice points, and the bytes there
abbrev pub seen : AckIter → ℕ × (ℕ × ℕ) × List ℕ
seen it = (it.largest.0, it.«data».ref_ptr, it.«data».now)

-- and the answer
abbrev pub Seen : Type 0
Seen = Result (Option (FullNumber × FullNumber)) Refusal

next_once : Once {B = Seen × (ℕ × (ℕ × ℕ) × List ℕ)} next.ended next_reads.Post (λ κs x s. (x, seen s.0.now))
unfolding Once
next_once κs a x y s t p q i = (
  step_one x y _ p.0 q.0 i,
  ((p.1 ∙ sym q.1) i, ((p.2.block ∙ sym q.2.block) i, (p.2.offset ∙ sym q.2.offset) i), (p.2.bytes ∙ sym q.2.bytes) i),
)

nth_range_once : Once nth_range.ended nth_range_reads.Post (λ κs x s. x)
unfolding Once
nth_range_once κs a x y s t p q = step_one x y _ p q

-- and at every model the `ensures` of the reader's own two are those claims
new_once_of : OnceOf new.ended (λ M 𝓤. new.clauses) (λ κs x s. x)
new_once_of = record { claim = new_reads.Post; is = λ M 𝓤 𝓛 mem run κs a g x s. refl; once = new_once }

next_once_of : OnceOf {B = Seen × (ℕ × (ℕ × ℕ) × List ℕ)} next.ended (λ M 𝓤. next.clauses) (λ κs x s. (x, seen s.0.now))
next_once_of = record { claim = next_reads.Post; is = λ M 𝓤 𝓛 mem run κs a g x s. refl; once = next_once }
