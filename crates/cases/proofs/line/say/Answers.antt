use Rattle.cases.specs.Lines.{and_num, and_nums}
use Rattle.cases.specs.Said.{word_of, numbers_of, answer_line}
use Rattle.text.proofs.Puts.{piece_on}
use Rattle.cases.proofs.line.say.Goals as goal

pub returns-in-Err : goal.returns-in-Err
unfolding answer_line word_of numbers_of and_nums and_num
returns-in-Err c =
    rw (c.in-Err.is, ← c.number.ensures) (piece_on _ _ _ _ _ _ c.put_slice-p.ensures c.and_num.ensures)
