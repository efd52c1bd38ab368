-- The Length step: RFC 9000, 17.2: the length of the remainder of the packet, that is, the number and the payload, in bytes.
use Rattle.std.specs.Prelude.{ℕ, ◌+◌, ◌-◌, ◌^◌, List, Bool, length, ltb, if◌then◌else◌}
use Rattle.std.proofs.Math.Option.{Option}
use Rattle.coding.specs.Words.{Answer, no, ok}
use Rattle.coding.specs.Bytes.{bytes_be, splice}
use Rattle.protect.specs.Tests.{number_bytes, header_tests}
use Rattle.protect.specs.Steps.{Changed, only_done}

-- section 16: two bytes, with 01 on top
unfoldable pub length_field : ℕ → List ℕ
length_field n = bytes_be 2 (2 ^ 14 + n)

-- in the two bytes before a number of k; 14 where two bytes do not hold it
unfoldable pub length_into : ℕ → ℕ → List ℕ → Answer (List ℕ)
length_into header_len k packet =
    if ltb (length packet - header_len + k) (2 ^ 14) then
    ok (splice packet (header_len - k - 2) (length_field (length packet - header_len + k)))
    else no 14

abbrev pub PutsLength : ℕ → ℕ → List ℕ → Answer (Unit {0}) → List ℕ → Type 0
PutsLength header_len k packet = Changed only_done (length_into header_len k packet) packet

-- the header's tests come first; a header that has no Length stays as it is
unfoldable pub length_set : ℕ → Option ℕ → Bool → List ℕ → Answer (List ℕ)
length_set header_len number has_length packet =
    if header_tests header_len number has_length (length packet) then
    (if has_length then length_into header_len (number_bytes number) packet else ok packet)
    else no 14

-- the answer is only that it is done
abbrev pub SetsLength : ℕ → Option ℕ → Bool → List ℕ → Answer (Unit {0}) → List ℕ → Type 0
SetsLength header_len number has_length packet = Changed only_done (length_set header_len number has_length packet) packet
