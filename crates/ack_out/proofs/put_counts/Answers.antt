use Rattle.coding.proofs.Writes.{put_none}
use Rattle.row_out.specs.Limits.{stored}
use Rattle.ack_out.specs.Acks.{counts_of}
use Rattle.ack_out.proofs.Frames.{no_counts}
use Rattle.ack_out.proofs.put_counts.Goals as goal

pub returns-in-Some : goal.returns-in-Some
unfolding counts_of
returns-in-Some c = rw c.in-Some.is c.put_vars.ensures

pub returns-in-None : goal.returns-in-None
unfolding stored
returns-in-None c = rw (c.in-None.is, no_counts) (put_none _ _)
