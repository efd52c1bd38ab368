use Rattle.coding.specs.Said.{answer_of}
use Rattle.coding.specs.Writing.{length_of}
use Rattle.ack_out.specs.Acks.{counts_of}
use Rattle.ack_out.proofs.Frames.{no_counts}
use Rattle.ack_out.proofs.counts_len.Goals as goal

pub returns-in-Some : goal.returns-in-Some
unfolding counts_of
returns-in-Some c = rw c.in-Some.is c.vars_len.ensures

pub returns-in-None : goal.returns-in-None
unfolding answer_of length_of
returns-in-None c = rw (c.in-None.is, no_counts)
