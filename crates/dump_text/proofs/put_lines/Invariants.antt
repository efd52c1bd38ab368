use Rattle.dump_text.proofs.Loops.{Goes, left}
use Rattle.dump_text.proofs.put_lines.Given as goal

abbrev pub invariant-loop-next : goal.invariant-loop-next
invariant-loop-next l = Goes l.s l.initial.buf l.buf l.anew l.next l.p l.n

abbrev pub decreases-loop-next : goal.decreases-loop-next
decreases-loop-next l = left l.s l.next
