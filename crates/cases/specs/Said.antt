-- What each case of the code's answers says.
use Rattle.std.specs.Prelude.{ℕ, Bool, true, false, List, [], ◌∷◌, ◌++◌, if◌then◌else◌, Result, Ok, Err, Option, Some, None}
use Rattle.coding.specs.Refusals.{number_of}
use Rattle.coding.specs.declared.refusal.Refusal.{Refusal}
use Rattle.coding.specs.declared.refusal.UnexpectedEnd.{UnexpectedEnd}
use Rattle.text.specs.Decimal.{decimal}
use Rattle.cases.specs.Records.{Case, asked, ended, stopped}
use Rattle.cases.specs.Lines.{and_hex, and_nums, ok_word, none_word, no_word, bad_word}
use Rattle.cases.specs.declared.record.Record.{Record}
use Rattle.cases.specs.declared.line.Answer.{Answer}
use Rattle.cases.specs.declared.line.Answer.TheVariants as answer

unfoldable pub case_of : Result (Option Record) UnexpectedEnd → Case
case_of (Ok (Some head)) = asked head.op head.len
case_of (Ok None) = ended
case_of (Err end) = stopped

-- an answer's word
unfoldable pub word_of : Result Answer Refusal → List ℕ
word_of (Ok answer.Bad) = bad_word
word_of (Ok answer.Nothing) = none_word
word_of (Ok answer.Done) = ok_word
word_of (Ok (answer.One x)) = ok_word
word_of (Ok (answer.Two x y)) = ok_word
word_of (Ok (answer.Three x y z)) = ok_word
word_of (Ok (answer.Number x)) = []
word_of (Err why) = no_word

-- its numbers, after spaces; a refusal's is document 01's
unfoldable pub numbers_of : Result Answer Refusal → List (List ℕ)
numbers_of (Ok answer.Bad) = []
numbers_of (Ok answer.Nothing) = []
numbers_of (Ok answer.Done) = []
numbers_of (Ok (answer.One x)) = and_nums (x ∷ [])
numbers_of (Ok (answer.Two x y)) = and_nums (x ∷ y ∷ [])
numbers_of (Ok (answer.Three x y z)) = and_nums (x ∷ y ∷ z ∷ [])
numbers_of (Ok (answer.Number x)) = decimal x ∷ []
numbers_of (Err why) = and_nums (number_of why ∷ [])

unfoldable pub answer_line : Result Answer Refusal → List (List ℕ)
answer_line a = word_of a ∷ numbers_of a

-- what a writer answers
unfoldable pub written_of : Result ℕ Refusal → Result Answer Refusal
written_of (Ok n) = Ok (answer.One n)
written_of (Err why) = Err why

unfoldable pub is_bad : Result Answer Refusal → Bool
is_bad (Ok answer.Bad) = true
is_bad (Ok answer.Nothing) = false
is_bad (Ok answer.Done) = false
is_bad (Ok (answer.One x)) = false
is_bad (Ok (answer.Two x y)) = false
is_bad (Ok (answer.Three x y z)) = false
is_bad (Ok (answer.Number x)) = false
is_bad (Err why) = false

-- an answer, and the lent buffer after it, where there is such an operation
unfoldable pub wrote_line : Result Answer Refusal → List ℕ → List (List ℕ)
wrote_line a buf = if is_bad a then answer_line a else answer_line a ++ and_hex buf
