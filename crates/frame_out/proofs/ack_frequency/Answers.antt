use Rattle.frame_out.proofs.Vals.{frequency_vals}
use Rattle.frame_out.proofs.ack_frequency.Goals as goal

pub returns : goal.returns
returns c = rw (frequency_vals _ _ _ _) c.frame_of.ensures
