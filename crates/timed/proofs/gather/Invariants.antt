use Rattle.std.proofs.Common.{◌≡◌, map, drop}
use Rattle.timed.specs.Timed.{gathered_from, gathered, Tells}
use Rattle.timed.proofs.gather.Given as goal

abbrev pub invariant-loop-count : goal.invariant-loop-count
invariant-loop-count g l = (f : _) → Tells (goal.F-post g l.each) f → gathered_from (map f (drop l.count l.items)) l.count l.mixed ≡ gathered (map f l.items)
