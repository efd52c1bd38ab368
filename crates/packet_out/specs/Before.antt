-- A header before a payload of n bytes, with its Length (RFC 9000, 17.2).
use Rattle.std.specs.Prelude.{ℕ, ◌+◌, ◌^◌, List, Bool, true, ◌&&◌, length, ltb, leb, if◌then◌else◌}
use Rattle.coding.specs.Words.{Answer, no, ok, max_datagram}
use Rattle.shared.specs.declared.cid.ConnectionId.{ConnectionId}
use Rattle.packet.specs.TypeBits.{bits_of}
use Rattle.protect.specs.Tests.{number_bytes}
use Rattle.packet_out.specs.Encoding.{Plain, plain_number, number_len_in, shape_by, written_header, header_bytes, keep_rules, Partial, EncodesAs}
use Rattle.packet_out.specs.Length.{length_field}

-- the rules are kept, and the packet, header and payload, has at most 65,527 bytes
unfoldable pub roomy : Plain → ConnectionId → ConnectionId → List ℕ → ℕ → Bool
roomy p dst src token n = keep_rules (plain_number p) dst src && leb (length (header_bytes bits_of p dst src token) + n) max_datagram

-- the header, with these bytes for its Length; else 14
unfoldable pub header_before : List ℕ → Plain → ConnectionId → ConnectionId → List ℕ → ℕ → Answer (List ℕ)
header_before field p dst src token n = if roomy p dst src token n then ok (written_header bits_of field p dst src token) else no 14

-- the number's bytes, none where there is no number
abbrev pub number_size : Plain → ℕ
number_size p = number_bytes (number_len_in (plain_number p))

-- a Length fits its two bytes
unfoldable pub length_fits : Bool → ℕ → Bool
length_fits has n = if has then ltb n (2 ^ 14) else true

-- the two bytes as a number; 0 where there is no Length
unfoldable pub field_for : Bool → ℕ → ℕ
field_for has n = if has then 2 ^ 14 + n else 0

-- there is room, and the Length of number and payload fits
unfoldable pub fits : Plain → ConnectionId → ConnectionId → List ℕ → ℕ → Bool
fits p dst src token n = roomy p dst src token n && length_fits (shape_by bits_of p).has_length (number_size p + n)

-- the header, its Length that of number and payload; where something does not fit, 14
unfoldable pub header_with : Plain → ConnectionId → ConnectionId → List ℕ → ℕ → Answer (List ℕ)
header_with p dst src token n =
    if fits p dst src token n then ok (written_header bits_of (length_field (number_size p + n)) p dst src token) else no 14

abbrev pub EncodesFor : Plain → ConnectionId → ConnectionId → List ℕ → ℕ → List ℕ → Answer Partial → List ℕ → Type 0
EncodesFor p dst src token n = EncodesAs p (header_with p dst src token n)
