use Rattle.frame_out.specs.Closes.{application}
use Rattle.frame_out.proofs.Cuts.{close_is_cut}
use Rattle.frame_out.proofs.closes.application_close.Goals as goal

pub returns : goal.returns
returns c = rw (close_is_cut (application c.args.error_code)) c.close_of.ensures
