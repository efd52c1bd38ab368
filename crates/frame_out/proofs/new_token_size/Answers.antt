use Rattle.frame_out.proofs.Vals.{token_vals}
use Rattle.frame_out.proofs.new_token_size.Goals as goal

pub returns : goal.returns
returns c = rw (token_vals _) c.frame_size.ensures
