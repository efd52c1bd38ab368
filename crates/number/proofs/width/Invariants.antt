use Rattle.std.proofs.Common.{◌≡◌, ◌-◌}
use Rattle.number.specs.Cutting.{bytes_for, first_fit}
use Rattle.number.proofs.width.Given as goal

abbrev pub invariant-loop-k : goal.invariant-loop-k
invariant-loop-k l = first_fit (5 - l.k) l.k l.range ≡ bytes_for l.range
