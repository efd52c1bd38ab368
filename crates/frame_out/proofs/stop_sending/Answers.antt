use Rattle.frame_out.proofs.Vals.{stop_vals}
use Rattle.frame_out.proofs.stop_sending.Goals as goal

pub returns : goal.returns
returns c = rw (stop_vals _ _) c.frame_of.ensures
