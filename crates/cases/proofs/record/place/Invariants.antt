use Rattle.cases.specs.Records.{part_after}
use Prim.Native.Nat.{◌-◌}
use mathlib.Core.Path.{◌≡◌}
use Rattle.cases.proofs.record.place.Given as goal

-- As many parts are left as the loop has turns.
abbrev pub invariant-loop : goal.invariant-loop
invariant-loop l = part_after l.j l.rec 48 ≡ part_after (l.j - l.counter) l.r.bytes.now l.r.at
