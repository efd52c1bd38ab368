use Rattle.number.specs.Said.{full_of}
use Rattle.spaces.specs.Calls.{lifted, read_call}
use Rattle.spaces.proofs.Lifts.{lifted_says}
use Rattle.spaces.proofs.Spaces.read.Goals as goal

pub returns-in_default : goal.returns-in_default
unfolding full_of lifted
returns-in_default c =
    let q = rw c.in_default.is at c.space_of.ensures in
    rw (← q)

pub returns : goal.returns
returns c =
    let q = rw c.in-Some.is at c.space_of.ensures in
    rw (c.read.ensures, c.get.ensures, ← q, lifted_says (read_call _) _ _)
