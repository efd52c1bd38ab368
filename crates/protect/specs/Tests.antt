-- What is tested before a packet is masked or unmasked: document 01, "Numbers we hold to" and "From datagram to packets".
use Rattle.std.specs.Prelude.{ℕ, ◌+◌, ◌/◌, List, Bool, true, false, ◌&&◌, length, ltb, leb, eqb, if◌then◌else◌}
use Rattle.std.proofs.Math.Option.{Option, none, some}
use Rattle.coding.specs.Words.{Answer, no, ok, max_datagram}
use Rattle.coding.specs.Bytes.{byte_at}
use Rattle.shared.specs.FirstByte.{long_header_form}

-- a packet has at most 65,527 bytes: past that it is 14
unfoldable pub in_size : {A : Type 0} → List ℕ → Answer A → Answer A
in_size packet answer = if ltb max_datagram (length packet) then no 14 else answer

-- rule 8: a number of at most four bytes and a sample of sixteen follow the number offset
abbrev pub has_sample : ℕ → ℕ → Bool
has_sample len at = leb (at + 4 + 16) len

-- the header form, the top bit of the first byte, as a number
abbrev pub form_bit : Bool → ℕ
form_bit true = 1
form_bit false = 0

-- what can be masked or unmasked: rule 8 passes, and then the first byte has the form
unfoldable pub maskable : Bool → List ℕ → ℕ → Answer (Unit {0})
maskable is_long packet at =
    if has_sample (length packet) at then
    (if eqb (byte_at packet 0 / long_header_form) (form_bit is_long) then ok tt else no 14)
    else no 8

-- a header's number, where it has one: its bytes, and its rule, 1 to 4 of them
abbrev pub number_bytes : Option ℕ → ℕ
number_bytes none = 0
number_bytes (some k) = k

abbrev pub number_fits : Option ℕ → Bool
number_fits none = true
number_fits (some k) = leb 1 k && leb k 4

-- a header has its first byte, its number and, where it has one, its Length of two bytes
abbrev pub least_header : Option ℕ → Bool → ℕ
least_header number true = 1 + number_bytes number + 2
least_header number false = 1 + number_bytes number

-- the header's tests of the Length step and the mask step, all of them 14: the packet has at most 65,527 bytes and is no
-- shorter than its header, and the header is not too short
unfoldable pub header_tests : ℕ → Option ℕ → Bool → ℕ → Bool
header_tests header_len number has_length len =
    leb len max_datagram && leb header_len len && number_fits number && leb (least_header number has_length) header_len
