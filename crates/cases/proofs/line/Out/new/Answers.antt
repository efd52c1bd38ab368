use Rattle.std.proofs.Common.{refl}
use Rattle.cases.proofs.line.Out.new.Goals as goal

pub returns : goal.returns
returns c = record { room = c.lines.ensures; begins = refl }
