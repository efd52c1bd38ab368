use Prim.Native.Nat.{◌-◌, ◌≤◌}
use mathlib.Core.Path.{◌≡◌}
use lib.ListN.{length}
use Rattle.timed.specs.Timed.{gathered_from, gathered, vars_from, vars_of}
use Rattle.timed.proofs.guobbarel_timed_read_vars.Given as goal

abbrev pub invariant-loop-r : goal.invariant-loop-r
invariant-loop-r l = (gathered_from (vars_from (length l.bytes - l.count) l.bytes l.r.at) l.count l.mixed ≡ gathered (vars_of l.bytes)) × ((l.count ≤ l.r.at) × ((l.r.at ≤ length l.bytes) × (l.r.bytes.now ≡ l.bytes)))

abbrev pub decreases-loop-r : goal.decreases-loop-r
decreases-loop-r l = length l.bytes - l.r.at
