use Rattle.frame_out.proofs.Vals.{ecn_vals}
use Rattle.frame_out.proofs.ecn_counts.Goals as goal

pub returns : goal.returns
returns c = rw (ecn_vals _ _ _) c.frame_of.ensures
