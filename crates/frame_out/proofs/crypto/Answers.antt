use Rattle.frame_out.proofs.Vals.{crypto_vals}
use Rattle.frame_out.proofs.crypto.Goals as goal

pub returns : goal.returns
returns c = rw (crypto_vals _ _) c.frame_of.ensures
