-- The dump's text: document 01, "The dump program". Characters are in ASCII.
use Rattle.std.specs.Prelude.{ℕ, ◌+◌, List, [], ◌∷◌, ◌++◌, false, length}
use Rattle.std.proofs.Math.Option.{Option, none, some}
use Rattle.coding.specs.Words.{Answer, no, ok}
use Rattle.text.specs.Decimal.{decimal}
use Rattle.packet.specs.Header.{Header, initial, zero_rtt, handshake, retry, short, negotiate, Outcome}
use Rattle.packet.specs.Walk.{Met, at_end, packet, refused_at, PacketStep, walk_at}

-- a number and the character after it
unfoldable pub number_then : ℕ → ℕ → List ℕ
number_then x after = decimal x ++ (after ∷ [])

-- "initial ", "0rtt ", "handshake ", "retry ", "short ", "vneg "
abbrev pub kind_word : Answer Header → List ℕ
kind_word (no k) = []
kind_word (ok (initial token len)) = 0x69 ∷ 0x6e ∷ 0x69 ∷ 0x74 ∷ 0x69 ∷ 0x61 ∷ 0x6c ∷ 0x20 ∷ []
kind_word (ok (zero_rtt len)) = 0x30 ∷ 0x72 ∷ 0x74 ∷ 0x74 ∷ 0x20 ∷ []
kind_word (ok (handshake len)) = 0x68 ∷ 0x61 ∷ 0x6e ∷ 0x64 ∷ 0x73 ∷ 0x68 ∷ 0x61 ∷ 0x6b ∷ 0x65 ∷ 0x20 ∷ []
kind_word (ok retry) = 0x72 ∷ 0x65 ∷ 0x74 ∷ 0x72 ∷ 0x79 ∷ 0x20 ∷ []
kind_word (ok (short spin)) = 0x73 ∷ 0x68 ∷ 0x6f ∷ 0x72 ∷ 0x74 ∷ 0x20 ∷ []
kind_word (ok (negotiate bits)) = 0x76 ∷ 0x6e ∷ 0x65 ∷ 0x67 ∷ 0x20 ∷ []

abbrev pub refusal_in : Answer Header → ℕ
refusal_in (no k) = k
refusal_in (ok h) = 0

-- a packet: start, length, kind, and header length within the packet
unfoldable pub packet_line : ℕ → ℕ → Outcome → List ℕ
packet_line start len h = number_then start 0x20 ++ number_then len 0x20 ++ kind_word h.said ++ number_then h.end 0x0a

-- "refused ", start, number
unfoldable pub refused_line : ℕ → ℕ → List ℕ
refused_line start k = (0x72 ∷ 0x65 ∷ 0x66 ∷ 0x75 ∷ 0x73 ∷ 0x65 ∷ 0x64 ∷ 0x20 ∷ []) ++ number_then start 0x20 ++ number_then k 0x0a

-- "end ", and the total
unfoldable pub total_line : ℕ → List ℕ
total_line total = (0x65 ∷ 0x6e ∷ 0x64 ∷ 0x20 ∷ []) ++ number_then total 0x0a

-- the line of each step
unfoldable pub line_of : ℕ → Met → Outcome → List ℕ
line_of total at_end h = total_line total
line_of total (packet start len) h = packet_line start len h
line_of total (refused_at start) h = refused_line start (refusal_in h.said)

-- the last line is "end" or "refused"
unfoldable pub after_of : Met → List ℕ → List ℕ
after_of at_end rest = []
after_of (packet start len) rest = rest
after_of (refused_at start) rest = []

unfoldable pub lines_of : ℕ → List PacketStep → List ℕ
lines_of total [] = total_line total
lines_of total (x ∷ xs) = line_of total x.met x.header ++ after_of x.met (lines_of total xs)

-- local CID length 0, version 1, grease off
unfoldable pub dump_text : List ℕ → List ℕ
dump_text s = lines_of (length s) (walk_at s 0 (1 ∷ []) false)

-- where the next step is
abbrev pub next_of : Met → Option ℕ
next_of at_end = none
next_of (packet start len) = some (start + len)
next_of (refused_at start) = none
