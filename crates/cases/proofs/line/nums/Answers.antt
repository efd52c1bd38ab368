use Rattle.cases.specs.Lines.{nums}
use Rattle.text.proofs.Puts.{pieces}
use Rattle.cases.proofs.line.nums.Goals as goal

pub returns : goal.returns
unfolding nums
returns c = search pieces depth 40 fits 4000
