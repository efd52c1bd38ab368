use Rattle.frame_out.proofs.Vals.{reset_vals}
use Rattle.frame_out.proofs.reset_stream.Goals as goal

pub returns : goal.returns
returns c = rw (reset_vals _ _ _) c.frame_of.ensures
