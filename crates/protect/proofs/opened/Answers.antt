use Rattle.protect.proofs.Cases.{said_long, said_short}
use Rattle.protect.proofs.opened.Goals as goal

pub returns-then-long : goal.returns-then-long
returns-then-long c = rw c.if-long.true (said_long _ _)

pub returns : goal.returns
returns c = rw c.if-long.false (said_short _ _)
