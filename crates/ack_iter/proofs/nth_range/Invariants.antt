use Rattle.std.proofs.Common.{◌≡◌, ◌-◌}
use Rattle.ack_iter.specs.Iter.{step_after}
use Rattle.ack_iter.proofs.nth_range.Given as goal

-- what is still to come is what the first reader says after n steps
abbrev pub invariant-loop : goal.invariant-loop
invariant-loop l = step_after (l.n - l.counter) l.it.«data».now l.it.largest.0 ≡ step_after l.n l.blocks l.fn.largest.0
