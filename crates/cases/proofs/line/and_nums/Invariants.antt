use Rattle.cases.specs.Lines.{and_nums}
use Rattle.text.specs.Puts.{puts}
use mathlib.Core.Path.{◌≡◌}
use lib.ListN.{drop}
use Rattle.cases.proofs.line.and_nums.Given as goal

-- The numbers that are left go on from where the text ends.
abbrev pub invariant-loop-n : goal.invariant-loop-n
invariant-loop-n l = puts (and_nums l.ns) (l.initial.p, l.initial.out) ≡ puts (and_nums (drop l.n-index l.ns)) (l.p, l.out)
