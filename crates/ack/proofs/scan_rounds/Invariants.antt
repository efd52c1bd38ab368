use Prim.Native.Nat.{◌-◌}
use mathlib.Core.Path.{◌≡◌}
use Rattle.ack.specs.Scan.{rounds}
use Rattle.ack.proofs.scan_rounds.Given as goal

abbrev pub invariant-loop : goal.invariant-loop
invariant-loop l = (l.r.bytes.now ≡ l.s) × (rounds l.s (l.n - l.counter) l.r.at l.smallest ≡ rounds l.s l.n l.at l.low)
