-- A packet's header as it is written: RFC 9000, 17.2 and 17.3; Version Negotiation: 17.2.1.
use Rattle.std.specs.Prelude.{ℕ, ◌+◌, ◌*◌, ◌%◌, ◌≡◌, List, [], ◌∷◌, ◌++◌, Bool, true, false, ◌&&◌, length, leb, if◌then◌else◌}
use Rattle.std.proofs.Math.Option.{Option, none, some}
use Rattle.coding.specs.Words.{Answer, no, ok, max_datagram}
use Rattle.coding.specs.Bytes.{bytes_be}
use Rattle.coding.specs.Varint.{var_bytes}
use Rattle.coding.specs.Writing.{in_room, length_of, into_buffer}
use Rattle.shared.specs.FirstByte.{long_header_form, fixed_bit, spin_bit, key_phase_bit}
use Rattle.shared.specs.Cid.{cid_bytes, long_bytes, max_cid}
use Rattle.shared.specs.declared.cid.ConnectionId.{ConnectionId}
use Rattle.shared.specs.declared.kinds.CutNumber.{CutNumber}
use Rattle.number.specs.Cutting.{is_cut, length_bits, cut_bytes}
use Rattle.packet.specs.TypeBits.{PacketType, bits_of}
use Rattle.packet.specs.TypeBits as type

-- the kinds of header, with what each has besides its connection ids and token: Initial, 0-RTT and Handshake their number
-- and version; Retry its version; a short header its spin bit, key phase and number; Version Negotiation the bits below
-- the form bit
pub data Plain : Type 0 where
  initial : CutNumber → ℕ → Plain
  zero_rtt : CutNumber → ℕ → Plain
  handshake : CutNumber → ℕ → Plain
  retry : ℕ → Plain
  short : Bool → Bool → CutNumber → Plain
  negotiate : ℕ → Plain

-- the packet number, where there is one
abbrev pub plain_number : Plain → Option CutNumber
plain_number (initial c v) = some c
plain_number (zero_rtt c v) = some c
plain_number (handshake c v) = some c
plain_number (retry v) = none
plain_number (short spin phase c) = some c
plain_number (negotiate bits) = none

-- a bit of the first byte
abbrev pub bit_if : Bool → ℕ → ℕ
bit_if b x = if b then x else 0

-- 17.2: the form bit and the fixed bit, the type in 0x30; the reserved bits are 0, and the number's length follows
abbrev pub long_first : ℕ → ℕ
long_first bits = long_header_form + fixed_bit + bits * 16

-- 17.3.1: the fixed bit, the spin bit, the key phase; the reserved bits are 0, and the number's length follows
abbrev pub short_first : Bool → Bool → ℕ
short_first spin phase = fixed_bit + bit_if spin spin_bit + bit_if phase key_phase_bit

-- what stands around the connection ids: the first byte; the version, which a short header lacks; whether there is a token,
-- and a Length
pub record Shape : Type 0 where
  pub first : ℕ
  pub version : Option ℕ
  pub has_token : Bool
  pub has_length : Bool

abbrev pub long_shape : ℕ → ℕ → Bool → Bool → Shape
long_shape first version has_token has_length = record { first = first; version = some version; has_token = has_token; has_length = has_length }

abbrev pub short_shape : ℕ → Shape
short_shape first = record { first = first; version = none; has_token = false; has_length = false }

-- by the kind, for any bits of the types by the version
abbrev pub shape_by : (ℕ → PacketType → ℕ) → Plain → Shape
shape_by bits (initial c v) = long_shape (long_first (bits v type.initial) + length_bits c) v true true
shape_by bits (zero_rtt c v) = long_shape (long_first (bits v type.zero_rtt) + length_bits c) v false true
shape_by bits (handshake c v) = long_shape (long_first (bits v type.handshake) + length_bits c) v false true
shape_by bits (retry v) = long_shape (long_first (bits v type.retry)) v false false
shape_by bits (short spin phase c) = short_shape (short_first spin phase + length_bits c)
shape_by bits (negotiate random) = long_shape (long_header_form + random % long_header_form) 0 false false

-- ---- the fields past the first byte

-- the version and both connection ids, each behind its length; in a short header the destination's bytes alone
unfoldable pub names_bytes : Option ℕ → ConnectionId → ConnectionId → List ℕ
names_bytes none dst src = cid_bytes dst
names_bytes (some version) dst src = bytes_be 4 version ++ (long_bytes dst ++ long_bytes src)

-- 17.2.2: the token behind its length
unfoldable pub token_bytes : Bool → List ℕ → List ℕ
token_bytes has token = if has then var_bytes (length token) ++ token else []

-- the Length's two bytes
unfoldable pub length_bytes : Bool → List ℕ → List ℕ
length_bytes has field = if has then field else []

-- 17.1: the number's bytes
unfoldable pub number_field : Option CutNumber → List ℕ
number_field none = []
number_field (some c) = cut_bytes c

-- ---- the header, with these bytes for its Length

unfoldable pub shape_bytes : List ℕ → Shape → Option CutNumber → ConnectionId → ConnectionId → List ℕ → List ℕ
shape_bytes field shape number dst src token =
    shape.first
    ∷ (names_bytes shape.version dst src ++ (token_bytes shape.has_token token ++ (length_bytes shape.has_length field ++ number_field number)))

unfoldable pub written_header : (ℕ → PacketType → ℕ) → List ℕ → Plain → ConnectionId → ConnectionId → List ℕ → List ℕ
written_header bits field p dst src token = shape_bytes field (shape_by bits p) (plain_number p) dst src token

-- its place is kept by two bytes of 0
abbrev pub placeholder : List ℕ
placeholder = bytes_be 2 0

abbrev pub header_bytes : (ℕ → PacketType → ℕ) → Plain → ConnectionId → ConnectionId → List ℕ → List ℕ
header_bytes bits = written_header bits placeholder

-- ---- what encode writes and answers

-- a number's rule, where there is one
abbrev pub number_keeps : Option CutNumber → Bool
number_keeps none = true
number_keeps (some c) = is_cut c

-- the connection ids and the number keep their rules
unfoldable pub keep_rules : Option CutNumber → ConnectionId → ConnectionId → Bool
keep_rules number dst src = leb dst.len max_cid && leb src.len max_cid && number_keeps number

-- a header has at most 65,527 bytes: past that it is 14
unfoldable pub in_header : {A : Type 0} → List ℕ → A → Answer A
in_header bs a = if leb (length bs) max_datagram then ok a else no 14

-- what encode writes: 14 comes before all else
unfoldable pub header_out : (ℕ → PacketType → ℕ) → Plain → ConnectionId → ConnectionId → List ℕ → Answer (List ℕ)
header_out bits p dst src token =
    if keep_rules (plain_number p) dst src then in_header (header_bytes bits p dst src token) (header_bytes bits p dst src token) else no 14

-- the header's length, its number's length, where it has one, and whether a Length is to be set
pub record Partial : Type 0 where
  pub header_len : ℕ
  pub number : Option ℕ
  pub has_length : Bool

abbrev pub number_len_in : Option CutNumber → Option ℕ
number_len_in none = none
number_len_in (some c) = some c.0

unfoldable pub partial_of : Plain → Answer ℕ → Answer Partial
partial_of p (no k) = no k
partial_of p (ok n) = ok (record { header_len = n; number = number_len_in (plain_number p); has_length = (shape_by bits_of p).has_length })

-- writing w for the header p into the buffer `old` says `said` and leaves `new`
pub record EncodesAs (p : Plain) (w : Answer (List ℕ)) (old : List ℕ) (said : Answer Partial) (new : List ℕ) : Type 0 where
  pub says : said ≡ partial_of p (length_of (in_room (length old) w))
  pub leaves : new ≡ into_buffer (in_room (length old) w) old

abbrev pub Encodes : Plain → ConnectionId → ConnectionId → List ℕ → List ℕ → Answer Partial → List ℕ → Type 0
Encodes p dst src token = EncodesAs p (header_out bits_of p dst src token)
