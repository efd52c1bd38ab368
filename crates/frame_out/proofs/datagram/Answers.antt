use Rattle.frame_out.proofs.Vals.{datagram_vals_law}
use Rattle.frame_out.proofs.datagram.Goals as goal

pub returns-then-with_len : goal.returns-then-with_len
returns-then-with_len c = rw (c.if-with_len.true, datagram_vals_law) c.frame_of.ensures

pub returns : goal.returns
returns c = rw (c.if-with_len.false, datagram_vals_law) c.frame_of-2.ensures
