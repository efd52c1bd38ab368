use Rattle.cases.specs.Said.{wrote_line}
use Rattle.text.proofs.Puts.{pieces}
use Rattle.cases.proofs.line.wrote.Goals as goal

pub returns-then-is_bad : goal.returns-then-is_bad
unfolding wrote_line
returns-then-is_bad c = rw (← c.is_bad.ensures, c.if-is_bad.true) c.say-p.ensures

pub returns : goal.returns
unfolding wrote_line
returns c = rw (← c.is_bad.ensures, c.if-is_bad.false) (search pieces depth 40 fits 4000)
