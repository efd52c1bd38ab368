use mathlib.Core.Path.{◌≡◌}
use Prim.Native.Nat.{◌+◌, ◌-◌, ◌/◌, ◌^◌, ◌≤◌}
use lib.Seq.{sets}
use Rattle.coding.specs.Bytes.{bytes_be}
use Rattle.coding.proofs.put_be.Given as goal

abbrev pub invariant-loop-i : goal.invariant-loop-i
invariant-loop-i l = (l.i ≤ l.n) × ((l.buf ≡ sets l.initial.buf (l.at + l.i) (bytes_be (l.n - l.i) l.x)) × (l.v ≡ l.x / 256 ^ (l.n - l.i)))
