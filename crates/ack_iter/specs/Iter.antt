-- The reader that holds its slice: document 01, "Frames".
use Rattle.std.specs.Prelude.{ℕ, zero, suc, min, List, [], length, drop}
use Rattle.std.specs.Borrow.{Bor}
use Rattle.coding.specs.Places.{Part}
use Rattle.ack.specs.Step.{Step, Taken, go_on, ack_step}
use Rattle.ack_iter.specs.declared.AckIter.{AckIter}

-- one step over the bytes that it holds
abbrev pub taken : AckIter → Taken
taken it = ack_step it.«data».now 0 it.largest.0

-- r is what is left of the slice s after n bytes: the slice's own end
abbrev pub Rest : Bor (List ℕ) → Bor (List ℕ) → ℕ → Type 0
Rest s r n = Part s r (min n (length s.now)) (drop n s.now)

-- what up to n steps say, each over what the one before left of the bytes; after the end and after a refusal there is nothing more
unfoldable pub reading : ℕ → List ℕ → ℕ → List Step
reading zero s largest = []
reading (suc n) s largest =
    let t = ack_step s 0 largest in
    go_on t.step (reading n (drop t.next s) t.largest)

-- what a reader says after n other steps
unfoldable pub step_after : ℕ → List ℕ → ℕ → Step
step_after zero s largest = (ack_step s 0 largest).step
step_after (suc n) s largest =
    let t = ack_step s 0 largest in
    step_after n (drop t.next s) t.largest
