use mathlib.Core.Path.{sym, ◌∙◌}
use Rattle.text.proofs.Puts.{one_piece}
use Rattle.cases.specs.Said.{word_of, numbers_of, answer_line}
use Rattle.cases.proofs.Laws.{no_piece}
use Rattle.cases.proofs.line.say_answer.Goals as goal

pub returns-in-Bad : goal.returns-in-Bad
unfolding answer_line word_of numbers_of
returns-in-Bad c = rw c.in-Bad.is (one_piece c.put_slice.ensures)

pub returns-in-Nothing : goal.returns-in-Nothing
unfolding answer_line word_of numbers_of
returns-in-Nothing c = rw c.in-Nothing.is (one_piece c.put_slice-in-Nothing.ensures)

pub returns-in-Done : goal.returns-in-Done
unfolding answer_line word_of numbers_of
returns-in-Done c = rw c.in-Done.is (one_piece c.put_slice-in-Done.ensures)

pub returns-in-Number : goal.returns-in-Number
unfolding answer_line word_of numbers_of
returns-in-Number c = rw c.in-Number.is (c.num.ensures ∙ sym (no_piece _ _))
