use Rattle.cases.specs.Lines.{hex_word}
use Rattle.text.proofs.Puts.{pieces}
use Rattle.cases.proofs.line.hex.Goals as goal

pub returns : goal.returns
unfolding hex_word
returns c = search pieces depth 40 fits 4000
