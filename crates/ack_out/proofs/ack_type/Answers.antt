use Rattle.ack_out.specs.Acks.{ack_type_of}
use Rattle.ack_out.proofs.ack_type.Goals as goal

pub returns-in-Some : goal.returns-in-Some
unfolding ack_type_of
returns-in-Some c = rw c.in-Some.is

pub returns-in-None : goal.returns-in-None
unfolding ack_type_of
returns-in-None c = rw c.in-None.is
