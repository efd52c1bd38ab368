use lib.Seq.{paste}
use mathlib.Core.Path.{◌≡◌}
use Rattle.coding.proofs.put_slice.Given as goal

abbrev pub invariant-loop-i : goal.invariant-loop-i
invariant-loop-i l = l.buf ≡ paste l.initial.buf l.at l.bytes l.i
