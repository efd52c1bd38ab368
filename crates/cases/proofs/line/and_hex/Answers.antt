use Rattle.cases.specs.Lines.{and_hex}
use Rattle.text.proofs.Puts.{pieces}
use Rattle.cases.proofs.line.and_hex.Goals as goal

pub returns : goal.returns
unfolding and_hex
returns c = search pieces depth 40 fits 4000
