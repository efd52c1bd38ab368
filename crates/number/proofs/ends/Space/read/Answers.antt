use Rattle.std.proofs.Common.{sym}
use Rattle.number.specs.Ends.{read_by}
use Rattle.number.specs.Said.{full_of}
use Rattle.number.proofs.Readings.{expanded_past}
use Rattle.number.proofs.Calls.{receive_past}
use Rattle.number.proofs.ends.Space.read.Goals as goal

pub returns-then-not-receive_end : goal.returns-then-not-receive_end
unfolding read_by full_of
returns-then-not-receive_end c = expanded_past _ _ (receive_past _ (sym c.if-not-receive_end.ensures))
