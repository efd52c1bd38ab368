use mathlib.Core.Path.{◌≡◌}
use Prim.Native.Nat.{◌+◌, ◌-◌, ◌/◌, ◌^◌}
use lib.Seq.{sets}
use Rattle.text.proofs.Steps.{last_of}
use Rattle.text.proofs.put_digits.Given as goal

abbrev pub invariant-loop-i : goal.invariant-loop-i
invariant-loop-i l = (l.buf ≡ sets l.initial.buf (l.at + l.i) (last_of (l.n - l.i) l.x)) × (l.v ≡ l.x / 10 ^ (l.n - l.i))
