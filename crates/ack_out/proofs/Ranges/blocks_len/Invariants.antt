use Rattle.ack_out.proofs.Turns.{Summed}
use Rattle.ack_out.proofs.Ranges.blocks_len.Given as goal

abbrev pub invariant-loop-i : goal.invariant-loop-i
invariant-loop-i l = Summed l.self.list.now l.len l.i
