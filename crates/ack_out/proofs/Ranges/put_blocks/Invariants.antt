use Rattle.ack_out.proofs.Turns.{Puts}
use Rattle.ack_out.proofs.Ranges.put_blocks.Given as goal

abbrev pub invariant-loop-i : goal.invariant-loop-i
invariant-loop-i l = Puts l.self.list.now l.initial.buf l.at l.buf l.next l.i
