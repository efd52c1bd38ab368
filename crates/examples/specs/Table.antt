-- The worked examples marked P in document 01, "Bench examples", as one table. A row is a question and the reply that the
-- document gives; `answer` replies to a question by the definitions; the one statement is that `answers examples` is `replies examples`.
-- To add a row: write it into `examples`. For a new kind of question, first a constructor of `Question` and a clause of `answer` by
-- the definition in question, whose name goes on the `unfolding` line of proofs/Holds.antt.
use Rattle.std.specs.Prelude.{ℕ, ◌+◌, ◌^◌, List, [], ◌∷◌, Bool, true, false, length, get_or}
use Rattle.std.proofs.Math.Option.{Option, some}
use Rattle.coding.specs.Words.{Got, cut, got, Answer, no, ok}
use Rattle.coding.specs.Places.{part_of}
use Rattle.coding.specs.Varint.{var_at, var_out}
use Rattle.coding.specs.declared.Place.{Place}
use Rattle.shared.specs.declared.kinds.CutNumber.{CutNumber}
use Rattle.number.specs.Cutting as number
use Rattle.number.specs.Cutting.{cut_made}
use Rattle.number.specs.Expanding.{expanded}
use Rattle.shared.specs.Cid.{cid_of}
use Rattle.packet.specs.Header.{Outcome, negotiate, refused_header, headed, header_at}
use Rattle.ack.specs.Step.{Step, range, end, stepping}
use Rattle.frame.specs.Format.{Value, num, place, none, said}
use Rattle.frame.specs.Table as frame

pub data Question : Type 0 where
  -- the integer at the start of these bytes
  read_var : List ℕ → Question
  -- the bytes that an integer is written as
  write_var : ℕ → Question
  -- a number to be sent, cut by the largest acknowledged
  cut_number : ℕ → ℕ → Question
  -- the full number of a cut one (its length and its value), by the expected one
  expand_number : ℕ → ℕ → ℕ → Question
  -- the header at the start of a datagram: local CID length 0, version 1, and whether grease is on
  read_header : List ℕ → Bool → Question
  -- the ranges of the ACK frame at the start of a payload
  read_ack : List ℕ → Question

pub data Reply : Type 0 where
  -- a refusal, by its number
  refused : ℕ → Reply
  -- a value, and the place past it
  value : ℕ → ℕ → Reply
  -- what is written
  bytes : List ℕ → Reply
  -- a cut number: its length, and its value
  cut_as : ℕ → ℕ → Reply
  -- a full number
  full : ℕ → Reply
  -- a header with all that stands beside it, or its refusal with all that it carries
  header : Outcome → Reply
  -- what the steps over a frame's ranges say, or the frame's refusal, with its start and its type once read
  ranges : List Step → Reply
  frame_refused : ℕ → ℕ → Option ℕ → Reply

-- what a read replies, a writer, a cut, and an expansion
unfoldable pub found : Got ℕ → Reply
found cut = refused 10
found (got v next) = value v next

unfoldable pub written : Answer (List ℕ) → Reply
written (no k) = refused k
written (ok bs) = bytes bs

unfoldable pub made : Answer CutNumber → Reply
made (no k) = refused k
made (ok c) = cut_as c.0 c.1

unfoldable pub grown : Answer ℕ → Reply
grown (no k) = refused k
grown (ok n) = full n

-- an ACK's largest number is its first value, and its blocks are the third
unfoldable pub number_said : Value → ℕ
number_said (num n) = n
number_said (place p) = 0
number_said none = 0

unfoldable pub place_in : Value → Place
place_in (num n) = record { start = 0; len = 0 }
place_in (place p) = p
place_in none = record { start = 0; len = 0 }

unfoldable pub ranged : List ℕ → frame.FrameOutcome → Reply
ranged s (frame.taken t (said name values) next) =
    ranges (stepping (length s) (part_of s (place_in (get_or values 2 none))) 0 (number_said (get_or values 0 none)))
ranged s (frame.refused k start t) = frame_refused k start t

unfoldable pub answer : Question → Reply
answer (read_var s) = found (var_at s 0)
answer (write_var x) = written (var_out x)
answer (cut_number n acked) = made (cut_made n acked)
answer (expand_number k v expected) = grown (expanded (number.cut k v) expected)
answer (read_header s grease) = header (header_at s 0 (1 ∷ []) grease)
answer (read_ack s) = ranged s (frame.frame_at frame.table s 0)

-- a refusal that carries both connection ids and the version
abbrev pub carrying : ℕ → List ℕ → List ℕ → ℕ → Outcome
carrying k to from version = record { said = no k; dst = cid_of to; src = cid_of from; version = version; end = 0 }

-- a range, from its smallest number to its largest
infix 80 ◌to◌
abbrev pub ◌to◌ : ℕ → ℕ → Step
a to b = range (record { smallest = a; largest = b })

pub record Example : Type 0 where
  pub asked : Question
  pub told : Reply

infix 70 ◌gives◌
abbrev pub ◌gives◌ : Question → Reply → Example
q gives r = record { asked = q; told = r }

unfoldable pub examples : List Example
examples =
    -- 25 and 4025 both read 37
    read_var (0x25 ∷ []) gives value 37 1 ∷
    read_var (0x40 ∷ 0x25 ∷ []) gives value 37 2 ∷
    -- 16383 writes 7fff, 16384 writes 80004000
    write_var 16383 gives bytes (0x7f ∷ 0xff ∷ []) ∷
    write_var 16384 gives bytes (0x80 ∷ 0x00 ∷ 0x40 ∷ 0x00 ∷ []) ∷
    -- 2^62 is 14
    write_var (2 ^ 62) gives refused 14 ∷
    -- 80 00000000 00 00 is 2, with grease Version Negotiation 0
    read_header (0x80 ∷ 0x00 ∷ 0x00 ∷ 0x00 ∷ 0x00 ∷ 0x00 ∷ 0x00 ∷ []) false gives header (refused_header 2) ∷
    read_header (0x80 ∷ 0x00 ∷ 0x00 ∷ 0x00 ∷ 0x00 ∷ 0x00 ∷ 0x00 ∷ []) true gives header (headed (cid_of []) (cid_of []) 0 (negotiate 0) 7) ∷
    -- e0 00000002 00 00 is 4
    read_header (0xe0 ∷ 0x00 ∷ 0x00 ∷ 0x00 ∷ 0x02 ∷ 0x00 ∷ 0x00 ∷ []) false gives header (carrying 4 [] [] 2) ∷
    -- c0 00000001 00 00 05 aa is 5
    read_header (0xc0 ∷ 0x00 ∷ 0x00 ∷ 0x00 ∷ 0x01 ∷ 0x00 ∷ 0x00 ∷ 0x05 ∷ 0xaa ∷ []) false gives header (refused_header 5) ∷
    -- d = 127 takes one byte, 128 two, 2147483648 is 16
    cut_number (1000 + 127) 1000 gives cut_as 1 0x67 ∷
    cut_number (1000 + 128) 1000 gives cut_as 2 0x0468 ∷
    cut_number (1000 + 2147483648) 1000 gives refused 16 ∷
    -- expected 128, byte 00 gives 256; expected 127 gives 0
    expand_number 1 0x00 128 gives full 256 ∷
    expand_number 1 0x00 127 gives full 0 ∷
    -- ACK 02 05 00 01 01 02 00 gives 4 to 5 and 0; with gap 03 it is 12
    read_ack (0x02 ∷ 0x05 ∷ 0x00 ∷ 0x01 ∷ 0x01 ∷ 0x02 ∷ 0x00 ∷ []) gives ranges (4 to 5 ∷ 0 to 0 ∷ end ∷ []) ∷
    read_ack (0x02 ∷ 0x05 ∷ 0x00 ∷ 0x01 ∷ 0x01 ∷ 0x03 ∷ 0x00 ∷ []) gives frame_refused 12 0 (some 2) ∷
    []

-- what the definitions answer to each row's question, and what the document says: one computed test holds the two lists equal
unfoldable pub answers : List Example → List Reply
answers [] = []
answers (row ∷ rows) = answer row.asked ∷ answers rows

unfoldable pub replies : List Example → List Reply
replies [] = []
replies (row ∷ rows) = row.told ∷ replies rows
