use Rattle.cases.specs.Lines.{end_line}
use Rattle.text.proofs.Puts.{pieces}
use Rattle.cases.proofs.line.end.Goals as goal

pub returns : goal.returns
unfolding end_line
returns c = rw (← c.ending.ensures) (search pieces depth 40 fits 4000)
