-- What is written is read back: what reading says of a written header, and where it can be read.
use Rattle.std.specs.Prelude.{ℕ, ◌+◌, ◌/◌, ◌%◌, ◌^◌, ◌<◌, ◌≡◌, List, [], Bool, true, ◌⊎◌, length, if◌then◌else◌}
use Rattle.coding.specs.Varint.{var_size}
use Rattle.coding.specs.declared.Place.{Place}
use Rattle.shared.specs.FirstByte.{long_header_form, fixed_bit}
use Rattle.shared.specs.Cid.{cid_of, cid_bytes, max_cid}
use Rattle.shared.specs.declared.cid.ConnectionId.{ConnectionId}
use Rattle.packet.specs.Header.{Header, Outcome, headed, listed}
use Rattle.packet.specs.Header as read
use Rattle.packet.specs.TypeBits.{PacketType}
use Rattle.protect.specs.Steps.{Opened}
use Rattle.protect.specs.Steps as protect
use Rattle.packet_out.specs.Encoding.{Plain, initial, zero_rtt, handshake, retry, short, negotiate, names_bytes, token_bytes, shape_by}

-- the kind that is read, with the token's place and the Length
unfoldable pub kind_read : Plain → Place → ℕ → Header
kind_read (initial c v) token len = read.initial token len
kind_read (zero_rtt c v) token len = read.zero_rtt len
kind_read (handshake c v) token len = read.handshake len
kind_read (retry v) token len = read.retry
kind_read (short spin phase c) token len = read.short spin
kind_read (negotiate random) token len = read.negotiate (random % long_header_form)

unfoldable pub version_read : Plain → ℕ
version_read (initial c v) = v
version_read (zero_rtt c v) = v
version_read (handshake c v) = v
version_read (retry v) = v
version_read (short spin phase c) = 0
version_read (negotiate random) = 0

-- a short header has no source connection id
unfoldable pub src_read : Plain → ConnectionId → List ℕ
src_read (initial c v) src = cid_bytes src
src_read (zero_rtt c v) src = cid_bytes src
src_read (handshake c v) src = cid_bytes src
src_read (retry v) src = cid_bytes src
src_read (short spin phase c) src = []
src_read (negotiate random) src = cid_bytes src

-- where the token stands
unfoldable pub token_place : (ℕ → PacketType → ℕ) → Plain → ConnectionId → ConnectionId → List ℕ → Place
token_place bits p dst src token = record { start = 1 + length (names_bytes (shape_by bits p).version dst src) + var_size (length token); len = length token }

-- where the header ends that has a Length of m bytes, if any
unfoldable pub end_read : (ℕ → PacketType → ℕ) → Plain → ConnectionId → ConnectionId → List ℕ → ℕ → ℕ
end_read bits p dst src token m =
    1 + length (names_bytes (shape_by bits p).version dst src) + length (token_bytes (shape_by bits p).has_token token)
    + (if (shape_by bits p).has_length then m else 0)

-- a header that was written with a Length of m bytes, whose value is len, is read as this
unfoldable pub read_as : (ℕ → PacketType → ℕ) → Plain → ConnectionId → ConnectionId → List ℕ → ℕ → ℕ → Outcome
read_as bits p dst src token len m =
    headed (cid_of (cid_bytes dst)) (cid_of (src_read p src)) (version_read p) (kind_read p (token_place bits p dst src token) len) (end_read bits p dst src token m)

-- it can be read where its version is listed and not 0; a short one with its connection id's length; Version Negotiation
-- with grease, or with the fixed bit set
unfoldable pub Readable : Plain → ConnectionId → ℕ → List ℕ → Bool → Type 0
Readable (initial c v) dst local versions grease = (listed versions v ≡ true) × (v ≡ 0 → ⊥)
Readable (zero_rtt c v) dst local versions grease = (listed versions v ≡ true) × (v ≡ 0 → ⊥)
Readable (handshake c v) dst local versions grease = (listed versions v ≡ true) × (v ≡ 0 → ⊥)
Readable (retry v) dst local versions grease = (listed versions v ≡ true) × (v ≡ 0 → ⊥)
Readable (short spin phase c) dst local versions grease = local ≡ dst.len
Readable (negotiate random) dst local versions grease = (grease ≡ true) ⊎ (random / fixed_bit % 2 ≡ 1)

-- what the types say of the arguments: a version has 32 bits, a connection id an array of 20
pub record Typed (p : Plain) (dst src : ConnectionId) : Type 0 where
  pub version : version_read p < 2 ^ 32
  pub to : length dst.bytes ≡ max_cid
  pub from : length src.bytes ≡ max_cid

-- ---- what finish answers of a packet with a number: the number, reserved bits that are clear, and a short packet's key phase

unfoldable pub opened_as : Plain → Opened
opened_as (initial c v) = protect.long c.0 c.1 true
opened_as (zero_rtt c v) = protect.long c.0 c.1 true
opened_as (handshake c v) = protect.long c.0 c.1 true
opened_as (retry v) = protect.unnumbered
opened_as (short spin phase c) = protect.short c.0 c.1 true phase
opened_as (negotiate random) = protect.unnumbered
