use Rattle.text.proofs.Puts.{pieces}
use Rattle.cases.proofs.line.ok.Goals as goal

pub returns : goal.returns
returns c = search pieces depth 40 fits 4000
