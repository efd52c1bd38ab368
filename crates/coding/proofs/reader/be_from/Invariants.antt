use mathlib.Core.Path.{◌≡◌}
use Prim.Native.Nat.{◌+◌, ◌-◌, ◌*◌, ◌^◌, ◌≤◌}
use lib.ListN.{take, drop}
use Rattle.coding.specs.Bytes.{be}
use Rattle.coding.proofs.reader.be_from.Given as goal

abbrev pub invariant-loop-b : goal.invariant-loop-b
invariant-loop-b l =
    (l.b-index ≤ l.n) × ((l.v ≡ be l.first (take l.b-index (drop l.at l.s))) × ((l.v + 1) * 256 ^ (l.n - l.b-index) ≤ (l.first + 1) * 256 ^ l.n))
