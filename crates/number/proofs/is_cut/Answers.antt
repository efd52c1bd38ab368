use native.Mathlib.Omega.{arith}
use Rattle.number.proofs.Windows.{cut_test}
use Rattle.number.proofs.is_cut.Goals as goal

pub returns-then-c-lt5 : goal.returns-then-c-lt5
returns-then-c-lt5 c = rw c.from.ensures (cut_test _ (omega arith) (omega arith))
