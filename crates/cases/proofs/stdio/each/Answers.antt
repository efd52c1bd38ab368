use native.Mathlib.Omega.{arith}
use lib.ListN.{length-take}
use Rattle.cases.specs.Said.{case_of}
use Rattle.cases.specs.Stdio.{fields_in}
use Rattle.cases.proofs.stdio.each.Goals as goal

pub slice_bounds-answer-end : goal.slice_bounds-answer-end
unfolding fields_in case_of
slice_bounds-answer-end g c = let h = rw c.in-Ok-Some.field-0-is at c.in-Ok-Some.ensures in omega (arith, h)

pub slice_bounds-answer-end-in-Ok-Some : goal.slice_bounds-answer-end-in-Ok-Some
unfolding fields_in case_of
slice_bounds-answer-end-in-Ok-Some g c = let h = rw c.in-Ok-Some.field-0-is at c.in-Ok-Some.ensures in simp length-take (omega (arith, h))
