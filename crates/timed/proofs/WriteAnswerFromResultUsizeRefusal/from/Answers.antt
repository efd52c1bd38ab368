use Rattle.coding.specs.Said.{answer_of}
use Rattle.timed.specs.Timed.{write_record}
use Rattle.timed.proofs.WriteAnswerFromResultUsizeRefusal.from.Goals as goal

pub returns-in-Ok : goal.returns-in-Ok
unfolding write_record answer_of
returns-in-Ok c = rw c.in-Ok.is

pub returns-in-Err : goal.returns-in-Err
unfolding write_record answer_of
returns-in-Err c = rw (c.in-Err.is, c.number.ensures)
