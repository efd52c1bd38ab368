-- Only one answer, and only one content of each lent buffer, meets the contract of each public function.
use mathlib.Core.Path.{◌≡◌, refl, sym, ◌∙◌}
use mir.Syntax.{Dict}
use denote.Param.Laws.{Laws}
use denote.RattleType.{RattleType}
use mathlib.Core.List.{List}
use Prim.Native.Nat.{ℕ}
use Rattle.coding.specs.Once.{Once}
use Rattle.coding.proofs.Onces.{seen, one_part, one_put}
use Rattle.cases.specs.Records.{Case, asked, ended, stopped}
use Rattle.cases.specs.Said.{case_of}
use Rattle.cases.specs.declared.line.Out.{Out}
use Rattle.cases.specs.declared.record.Record.{Record}
use Rattle.coding.specs.declared.refusal.UnexpectedEnd.{UnexpectedEnd}
use Rattle.std.specs.Prelude.{Result, Ok, Err, Option, Some, None}
use Rattle.cases.specs.contracts.record.head as head
use Rattle.cases.proofs.record.head.Reads as head-reads
use Rattle.cases.specs.contracts.record.numbers_of as Numbers-of
use Rattle.cases.proofs.record.numbers_of.Reads as numbers-of-reads
use Rattle.cases.specs.contracts.record.bytes as bytes
use Rattle.cases.proofs.record.bytes.Reads as bytes-reads
use Rattle.cases.specs.contracts.record.lay as lay
use Rattle.cases.proofs.record.lay.Reads as lay-reads
use Rattle.cases.specs.contracts.record.byte as byte
use Rattle.cases.proofs.record.byte.Reads as byte-Reads
use Rattle.cases.specs.contracts.record.word as word
use Rattle.cases.proofs.record.word.Reads as word-reads
use Rattle.cases.specs.contracts.record.byte_at as byte_at
use Rattle.cases.proofs.record.byte_at.Reads as byte-at-reads
use Rattle.cases.specs.contracts.record.five as five
use Rattle.cases.proofs.record.five.Reads as five-reads
use Rattle.cases.specs.contracts.record.words as words
use Rattle.cases.proofs.record.words.Reads as words-reads
use Rattle.cases.specs.contracts.line.num as num
use Rattle.cases.proofs.line.num.Reads as num-reads
use Rattle.cases.specs.contracts.line.hex as hex
use Rattle.cases.proofs.line.hex.Reads as hex-reads
use Rattle.cases.specs.contracts.line.and_num as and-num
use Rattle.cases.proofs.line.and_num.Reads as and-num-reads
use Rattle.cases.specs.contracts.line.Out.and_some as and-some
use Rattle.cases.proofs.line.Out.and_some.Reads as and-some-reads
use Rattle.cases.specs.contracts.line.and_hex as and-hex
use Rattle.cases.proofs.line.and_hex.Reads as and-hex-reads
use Rattle.cases.specs.contracts.line.and_nums as and-nums
use Rattle.cases.proofs.line.and_nums.Reads as and-nums-reads
use Rattle.cases.specs.contracts.line.say as say
use Rattle.cases.proofs.line.say.Reads as say-reads
use Rattle.cases.specs.contracts.line.written as written
use Rattle.cases.proofs.line.written.Reads as written-reads
use Rattle.cases.specs.contracts.line.wrote as wrote
use Rattle.cases.proofs.line.wrote.Reads as wrote-reads
use Rattle.cases.specs.contracts.line.nums as nums
use Rattle.cases.proofs.line.nums.Reads as nums-reads
use Rattle.cases.specs.contracts.line.and_part as and-part
use Rattle.cases.proofs.line.and_part.Reads as and-part-reads
use Rattle.cases.specs.contracts.stdio.room as room
use Rattle.cases.proofs.stdio.room.Reads as room-reads
use Rattle.cases.specs.contracts.stdio.lines as lines
use Rattle.cases.proofs.stdio.lines.Reads as lines-reads
use Rattle.cases.specs.contracts.line.Out.new as new
use Rattle.cases.proofs.line.Out.new.Reads as new-reads
use Rattle.cases.specs.contracts.line.Out.put as put
use Rattle.cases.proofs.line.Out.put.Reads as put-reads
use Rattle.cases.specs.contracts.stdio.spill as spill
use Rattle.cases.proofs.stdio.spill.Reads as spill-reads
use Rattle.cases.specs.contracts.stdio.end_line as end_line
use Rattle.cases.proofs.stdio.end_line.Reads as end-line-reads
use Rattle.cases.specs.contracts.stdio.end as end
use Rattle.cases.proofs.stdio.end.Reads as end_reads
use Rattle.cases.specs.contracts.stdio.run as run
use Rattle.cases.proofs.stdio.run.Reads as run-reads
use Rattle.cases.specs.contracts.line.Out.num as out-num
use Rattle.cases.proofs.line.Out.num.Reads as out-num-reads
use Rattle.cases.specs.contracts.line.Out.hex as out-hex
use Rattle.cases.proofs.line.Out.hex.Reads as out-hex-reads
use Rattle.cases.specs.contracts.line.Out.and_num as out-and-num
use Rattle.cases.proofs.line.Out.and_num.Reads as out-and-num-reads
use Rattle.cases.specs.contracts.line.Out.and_hex as out-and-hex
use Rattle.cases.proofs.line.Out.and_hex.Reads as out-and-hex-reads
use Rattle.cases.specs.contracts.line.Out.and_nums as out-and-nums
use Rattle.cases.proofs.line.Out.and_nums.Reads as out-and-nums-reads
use Rattle.cases.specs.contracts.line.Out.nums as out-nums
use Rattle.cases.proofs.line.Out.nums.Reads as out-nums-reads
use Rattle.cases.specs.contracts.line.Out.and_part as out-and-part
use Rattle.cases.proofs.line.Out.and_part.Reads as out-and-part-reads
use Rattle.cases.specs.contracts.line.Out.say as out-say
use Rattle.cases.proofs.line.Out.say.Reads as out-say-reads
use Rattle.cases.specs.contracts.line.Out.wrote as out-wrote
use Rattle.cases.proofs.line.Out.wrote.Reads as out-wrote-reads
use Rattle.cases.specs.contracts.line.Out.spill as out-spill
use Rattle.cases.proofs.line.Out.spill.Reads as out-spill-reads
use Rattle.cases.specs.contracts.line.Out.end_line as out-end-line
use Rattle.cases.proofs.line.Out.end_line.Reads as out-end-line-reads
use Rattle.cases.specs.contracts.line.Out.end as out-end
use Rattle.cases.proofs.line.Out.end.Reads as out-end-reads

-- ---- records

-- what is said of a record's beginning settles it
back : Case → Result (Option Record) UnexpectedEnd
back (asked op len) = Ok (Some (record { op = op; len = len }))
back ended = Ok None
back stopped = Err (record {})

back_of : (t : Result (Option Record) UnexpectedEnd) → back (case_of t) ≡ t
unfolding case_of back
back_of (Ok (Some r)) = refl
back_of (Ok None) = refl
back_of (Err end) = refl

head_once : Once head.ended head-reads.Post (λ κs x s. x)
unfolding Once
head_once κs a x y s t p q = sym (back_of x) ∙ (λ i. back ((p ∙ sym q) i)) ∙ back_of y

numbers_of_once : Once Numbers-of.ended numbers-of-reads.Post (λ κs x s. x)
unfolding Once
numbers_of_once κs a x y s t p q = p ∙ sym q

bytes_once : Once bytes.ended bytes-reads.Post (λ κs x s. seen x)
unfolding Once
bytes_once κs a x y s t p q = one_part _ x y _ _ p q

lay_once : Once {B = ℕ × List ℕ} lay.ended lay-reads.Post (λ κs x s. (x, s.0.now))
unfolding Once
lay_once κs a x y s t p q = one_put _ _ _ x y _ _ p.put q.put

byte_once : Once byte.ended byte-Reads.Post (λ κs x s. x)
unfolding Once
byte_once κs a x y s t p q = p ∙ sym q

word_once : Once word.ended word-reads.Post (λ κs x s. x)
unfolding Once
word_once κs a x y s t p q = p ∙ sym q

byte_at_once : Once byte_at.ended byte-at-reads.Post (λ κs x s. x)
unfolding Once
byte_at_once κs a x y s t p q = p ∙ sym q

five_once : Once five.ended five-reads.Post (λ κs x s. x)
unfolding Once
five_once κs a x y s t p q = p ∙ sym q

words_once : Once {B = ℕ × List ℕ} words.ended words-reads.Post (λ κs x s. (x, s.1.0.now))
unfolding Once
words_once κs a x y s t p q = p.says ∙ sym q.says

-- ---- lines

num_once : Once {B = ℕ × List ℕ} num.ended num-reads.Post (λ κs x s. (x, s.0.now))
unfolding Once
num_once κs a x y s t p q = p ∙ sym q

hex_once : Once {B = ℕ × List ℕ} hex.ended hex-reads.Post (λ κs x s. (x, s.0.now))
unfolding Once
hex_once κs a x y s t p q = p ∙ sym q

and_num_once : Once {B = ℕ × List ℕ} and-num.ended and-num-reads.Post (λ κs x s. (x, s.0.now))
unfolding Once
and_num_once κs a x y s t p q = p ∙ sym q

and_hex_once : Once {B = ℕ × List ℕ} and-hex.ended and-hex-reads.Post (λ κs x s. (x, s.0.now))
unfolding Once
and_hex_once κs a x y s t p q = p ∙ sym q

and_nums_once : Once {B = ℕ × List ℕ} and-nums.ended and-nums-reads.Post (λ κs x s. (x, s.0.now))
unfolding Once
and_nums_once κs a x y s t p q = p ∙ sym q

nums_once : Once {B = ℕ × List ℕ} nums.ended nums-reads.Post (λ κs x s. (x, s.0.now))
unfolding Once
nums_once κs a x y s t p q = p ∙ sym q

and_part_once : Once {B = ℕ × List ℕ} and-part.ended and-part-reads.Post (λ κs x s. (x, s.0.now))
unfolding Once
and_part_once κs a x y s t p q = p ∙ sym q

say_once : Once {B = ℕ × List ℕ} say.ended say-reads.Post (λ κs x s. (x, s.0.now))
unfolding Once
say_once κs a x y s t p q = p ∙ sym q

written_once : Once written.ended written-reads.Post (λ κs x s. x)
unfolding Once
written_once κs a x y s t p q = p ∙ sym q

wrote_once : Once {B = ℕ × List ℕ} wrote.ended wrote-reads.Post (λ κs x s. (x, s.0.now))
unfolding Once
wrote_once κs a x y s t p q = p ∙ sym q

-- ---- standard input and output; what `next` reads is in no contract

room_once : Once room.ended room-reads.Post (λ κs x s. x)
unfolding Once
room_once κs a x y s t p q = p.is ∙ sym q.is

lines_once : Once lines.ended lines-reads.Post (λ κs x s. x)
unfolding Once
lines_once κs a x y s t p q = p.is ∙ sym q.is

spill_once : Once spill.ended spill-reads.Post (λ κs x s. x)
unfolding Once
spill_once κs a x y s t p q = p ∙ sym q

end_line_once : Once {B = ℕ × List ℕ} end_line.ended end-line-reads.Post (λ κs x s. (x, s.1.0.now))
unfolding Once
end_line_once κs a x y s t p q i = ((p.says ∙ sym q.says) i, (p.leaves ∙ sym q.leaves) i)

end_once : Once {B = ℕ × List ℕ} end.ended end_reads.Post (λ κs x s. (x, s.1.0.now))
unfolding Once
end_once κs a x y s t p q = p ∙ sym q

-- a run answers nothing
module _ (F : RattleType) (laws : Laws F) (g : run.F-FnMut.Ghosts F) (d e f : Dict) where
  run_once : Once (run.ended F g d e f) (run-reads.Post F laws g d e f) (λ κs x s. x)
  unfolding Once
  run_once κs a x y s t p q = refl

-- ---- the text so far

-- what is seen of it: the place where it ends, and the bytes
abbrev out_seen : Out → ℕ × List ℕ
out_seen o = (o.at, o.text)

new_once : Once new.ended new-reads.Post (λ κs x s. out_seen x)
unfolding Once
new_once κs a x y s t p q i = ((p.begins ∙ sym q.begins) i, (p.room.is ∙ sym q.room.is) i)

put_once : Once put.ended put-reads.Post (λ κs x s. out_seen s.0.now)
unfolding Once
put_once κs a x y s t p q = p ∙ sym q

out_num_once : Once out-num.ended out-num-reads.Post (λ κs x s. out_seen s.0.now)
unfolding Once
out_num_once κs a x y s t p q = p ∙ sym q

out_hex_once : Once out-hex.ended out-hex-reads.Post (λ κs x s. out_seen s.0.now)
unfolding Once
out_hex_once κs a x y s t p q = p ∙ sym q

out_and_num_once : Once out-and-num.ended out-and-num-reads.Post (λ κs x s. out_seen s.0.now)
unfolding Once
out_and_num_once κs a x y s t p q = p ∙ sym q

and_some_once : Once and-some.ended and-some-reads.Post (λ κs x s. out_seen s.0.now)
unfolding Once
and_some_once κs a x y s t p q = p ∙ sym q

out_and_hex_once : Once out-and-hex.ended out-and-hex-reads.Post (λ κs x s. out_seen s.0.now)
unfolding Once
out_and_hex_once κs a x y s t p q = p ∙ sym q

out_and_nums_once : Once out-and-nums.ended out-and-nums-reads.Post (λ κs x s. out_seen s.0.now)
unfolding Once
out_and_nums_once κs a x y s t p q = p ∙ sym q

out_nums_once : Once out-nums.ended out-nums-reads.Post (λ κs x s. out_seen s.0.now)
unfolding Once
out_nums_once κs a x y s t p q = p ∙ sym q

out_and_part_once : Once out-and-part.ended out-and-part-reads.Post (λ κs x s. out_seen s.0.now)
unfolding Once
out_and_part_once κs a x y s t p q = p ∙ sym q

out_say_once : Once out-say.ended out-say-reads.Post (λ κs x s. out_seen s.0.now)
unfolding Once
out_say_once κs a x y s t p q = p ∙ sym q

out_wrote_once : Once out-wrote.ended out-wrote-reads.Post (λ κs x s. out_seen s.0.now)
unfolding Once
out_wrote_once κs a x y s t p q = p ∙ sym q

out_spill_once : Once out-spill.ended out-spill-reads.Post (λ κs x s. out_seen s.0.now)
unfolding Once
out_spill_once κs a x y s t p q i = ((p.says ∙ sym q.says) i, (p.leaves ∙ sym q.leaves) i)

out_end_line_once : Once out-end-line.ended out-end-line-reads.Post (λ κs x s. out_seen s.0.now)
unfolding Once
out_end_line_once κs a x y s t p q i = ((p.says ∙ sym q.says) i, (p.leaves ∙ sym q.leaves) i)

out_end_once : Once out-end.ended out-end-reads.Post (λ κs x s. out_seen s.0.now)
unfolding Once
out_end_once κs a x y s t p q = p ∙ sym q
