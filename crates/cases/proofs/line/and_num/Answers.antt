use Rattle.cases.specs.Lines.{and_num}
use Rattle.text.proofs.Puts.{pieces}
use Rattle.cases.proofs.line.and_num.Goals as goal

pub returns : goal.returns
unfolding and_num
returns c = search pieces depth 40 fits 4000
