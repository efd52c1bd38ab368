use mathlib.Core.Path.{◌∙◌}
use Rattle.packet.proofs.Cases.{any_listed}
use Rattle.packet.proofs.protected.is_listed.Goals as goal

pub returns : goal.returns
returns c = c.contains.ensures.value ∙ any_listed _ _
