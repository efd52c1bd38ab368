use Rattle.std.proofs.Common.{arith}
use Rattle.coding.specs.Said.{answer_of}
use Rattle.coding.proofs.Writes.{written_no}
use Rattle.timed.proofs.Laws.{so, flags_no, flags_on}
use Rattle.timed.proofs.guobbarel_timed_stream_meta.Goals as goal

pub returns-then-fin-gt1 : goal.returns-then-fin-gt1
unfolding answer_of
returns-then-fin-gt1 c = so (written_no _ (flags_no _ _ _ c.then-fin-gt1.either)) c.into.ensures

pub returns : goal.returns
returns c = rw (flags_on c.args.fin c.args.has_length _ (omega arith) (omega arith)) (so c.stream_meta.ensures c.into-2.ensures)
