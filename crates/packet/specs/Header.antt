-- A packet's header as far as it can be read without keys: RFC 9000, 17.2 and 17.3; Version Negotiation: RFC 8999, 6.
use Rattle.std.specs.Prelude.{ℕ, ◌+◌, ◌*◌, ◌/◌, ◌%◌, List, [], ◌∷◌, Bool, false, not, ◌&&◌, ◌||◌, length, ltb, eqb, if◌then◌else◌}
use Rattle.std.proofs.Math.Option.{Option, none, some}
use Rattle.coding.specs.Words.{and_then, Answer, no, ok, max_datagram}
use Rattle.coding.specs.Reading.{fixed_at, take_at}
use Rattle.coding.specs.Varint.{var_at}
use Rattle.coding.specs.declared.Place.{Place}
use Rattle.shared.specs.FirstByte.{long_header_form, fixed_bit, spin_bit}
use Rattle.shared.specs.Cid.{max_cid, cid_of, cid_on, long_cid_at}
use Rattle.shared.specs.declared.cid.ConnectionId.{ConnectionId}
use Rattle.packet.specs.TypeBits.{PacketType, type_of}
use Rattle.packet.specs.TypeBits as type

-- the kinds of header, with what each alone has: Initial its token's place and its Length; 0-RTT and Handshake their
-- Length; a short header its spin bit; Version Negotiation the seven bits below the form bit
pub data Header : Type 0 where
  initial : Place → ℕ → Header
  zero_rtt : ℕ → Header
  handshake : ℕ → Header
  retry : Header
  short : Bool → Header
  negotiate : ℕ → Header

-- what reading a header says: the header, or a refusal's number; the connection ids, the version, and the place past it
pub record Outcome : Type 0 where
  pub said : Answer Header
  pub dst : ConnectionId
  pub src : ConnectionId
  pub version : ℕ
  pub end : ℕ

-- a refusal that carries nothing
abbrev pub refused_header : ℕ → Outcome
refused_header k = record { said = no k; dst = cid_of []; src = cid_of []; version = 0; end = 0 }

-- the most versions that a reader may list
abbrev pub max_versions : ℕ
max_versions = 16

-- an argument is outside its rule
unfoldable pub outside : List ℕ → ℕ → List ℕ → Bool
outside s local versions = ltb max_datagram (length s) || ltb max_cid local || ltb max_versions (length versions)

-- the fixed bit is clear, and grease is off
unfoldable pub unfixed : ℕ → Bool → Bool
unfixed first grease = not grease && eqb (first / fixed_bit % 2) 0

unfoldable pub listed : List ℕ → ℕ → Bool
listed [] v = false
listed (x ∷ versions) v = eqb x v || listed versions v

-- a header with the connection ids and the version beside it
unfoldable pub headed : ConnectionId → ConnectionId → ℕ → Header → ℕ → Outcome
headed dst src version h end = record { said = ok h; dst = dst; src = src; version = version; end = end }

-- ---- long headers: what stands past the connection ids

-- 17.2.2: a token behind its length, and the Length
unfoldable pub initial_at : (Header → ℕ → Outcome) → List ℕ → ℕ → Outcome
initial_at made s at =
    and_then (var_at s at) (refused_header 1) (λ n start.
    and_then (take_at n s start) (refused_header 5) (λ token next.
    and_then (var_at s next) (refused_header 1) (λ len end. made (initial token len) end)))

-- 17.2.3 and 17.2.4: the Length
unfoldable pub length_at : (ℕ → Header) → (Header → ℕ → Outcome) → List ℕ → ℕ → Outcome
length_at kind made s at = and_then (var_at s at) (refused_header 1) (λ len end. made (kind len) end)

unfoldable pub tail_at : PacketType → (Header → ℕ → Outcome) → List ℕ → ℕ → Outcome
tail_at type.initial made s at = initial_at made s at
tail_at type.zero_rtt made s at = length_at zero_rtt made s at
tail_at type.handshake made s at = length_at handshake made s at
tail_at type.retry made s at = made retry at

-- version 0 comes before the list; a version that is not listed is refused with the connection ids and the version
unfoldable pub body_at : (ℕ → ℕ → PacketType) → ℕ → ℕ → List ℕ → List ℕ → ℕ → ConnectionId → ConnectionId → ℕ → Outcome
body_at types steer rest s versions version dst src at =
    if eqb version 0 then headed dst src version (negotiate (steer % 8 * 16 + rest)) at else
    if listed versions version then tail_at (types version (steer % 4)) (headed dst src version) s at else
    record { said = no 4; dst = dst; src = src; version = version; end = 0 }

-- the version, and the two connection ids
unfoldable pub long_at : (ℕ → ℕ → PacketType) → ℕ → ℕ → List ℕ → List ℕ → Outcome
long_at types steer rest s versions =
    and_then (fixed_at 4 s 1) (refused_header 1) (λ version n.
    and_then (long_cid_at s n) (refused_header 3) (λ to m.
    and_then (long_cid_at s m) (refused_header 3) (λ from at.
    body_at types steer rest s versions version (cid_on s to) (cid_on s from) at)))

-- ---- short headers: 17.3.1

unfoldable pub short_at : ℕ → List ℕ → ℕ → Outcome
short_at steer s local =
    and_then (take_at local s 1) (refused_header 6) (λ to at.
    headed (cid_on s to) (cid_of []) 0 (short (eqb (steer % 2) 1)) at)

-- ---- any header

-- byte 0 is taken apart: the bits that steer are the form bit, the fixed bit and, in a long header, the type (first / 16),
-- in a short one the spin bit (first / spin_bit); the rest of it goes to Version Negotiation alone
unfoldable pub first_at : (ℕ → ℕ → PacketType) → ℕ → List ℕ → ℕ → List ℕ → Bool → Outcome
first_at types first s local versions grease =
    if unfixed first grease then refused_header 2 else
    if ltb first long_header_form then short_at (first / spin_bit) s local else long_at types (first / 16) (first % 16) s versions

-- the arguments come first, then byte 0
unfoldable pub header_by : (ℕ → ℕ → PacketType) → List ℕ → ℕ → List ℕ → Bool → Outcome
header_by types s local versions grease =
    if outside s local versions then refused_header 14 else
    and_then (fixed_at 1 s 0) (refused_header 1) (λ first n. first_at types first s local versions grease)

abbrev pub header_at : List ℕ → ℕ → List ℕ → Bool → Outcome
header_at = header_by type_of

-- ---- what is asked of a header

-- the Length, where there is one
abbrev pub length_in : Answer Header → Option ℕ
length_in (no k) = none
length_in (ok (initial token len)) = some len
length_in (ok (zero_rtt len)) = some len
length_in (ok (handshake len)) = some len
length_in (ok retry) = none
length_in (ok (short spin)) = none
length_in (ok (negotiate bits)) = none

-- the packet number space: RFC 9000, 12.3: 0 Initial, 1 Handshake, 2 application data (0-RTT and 1-RTT)
abbrev pub space_in : Answer Header → Option ℕ
space_in (no k) = none
space_in (ok (initial token len)) = some 0
space_in (ok (zero_rtt len)) = some 2
space_in (ok (handshake len)) = some 1
space_in (ok retry) = none
space_in (ok (short spin)) = some 2
space_in (ok (negotiate bits)) = none

-- the kinds by number
abbrev pub kind_of : Header → ℕ
kind_of (initial token len) = 0
kind_of (zero_rtt len) = 1
kind_of (handshake len) = 2
kind_of retry = 3
kind_of (short spin) = 4
kind_of (negotiate bits) = 5

-- whether it is of a kind; whether it is a long header. A refusal is neither
abbrev pub is_kind : ℕ → Answer Header → Bool
is_kind k (no j) = false
is_kind k (ok h) = eqb (kind_of h) k

abbrev pub is_long : Answer Header → Bool
is_long (no j) = false
is_long (ok h) = not (eqb (kind_of h) 4)
