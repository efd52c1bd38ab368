use Rattle.std.proofs.Common.{◌≡◌, ◌≤◌, true, length, take}
use Rattle.row_out.specs.Limits.{below62, vars_bytes}
use Rattle.row_out.proofs.vars_len.Given as goal

abbrev pub invariant-loop-x : goal.invariant-loop-x
invariant-loop-x l = (l.n ≤ 65527) × (below62 (take l.x-index l.vals) ≡ true) × (l.n ≡ length (vars_bytes (take l.x-index l.vals)))
