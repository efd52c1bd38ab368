-- What each answer of the code says, in document 01's numbers and values.
use Rattle.std.specs.Prelude.{ℕ, List, Bool, not, ◌&&◌, eqb, Result, Ok, Err, Some, None}
use Rattle.std.specs.Prelude.{Option as Maybe}
use Rattle.std.proofs.Math.Option.{Option, none, some}
use Rattle.coding.specs.Words.{no, ok}
use Rattle.coding.specs.Refusals.{number_of}
use Rattle.coding.specs.declared.refusal.Refusal.{Refusal}
use Rattle.shared.specs.declared.cid.ConnectionId.{ConnectionId}
use Rattle.packet.specs.TypeBits.{PacketType}
use Rattle.packet.specs.TypeBits as type
use Rattle.packet.specs.Header.{Header, initial, zero_rtt, handshake, retry, short, negotiate, Outcome, refused_header, listed}
use Rattle.packet.specs.Split.{Split, cut_at, no_packet}
use Rattle.packet.specs.Walk.{at_end, packet, refused_at, PacketStep}
use Rattle.packet.specs.declared.error.PacketDecodeError.{PacketDecodeError}
use Rattle.packet.specs.declared.error.PacketDecodeError.TheVariants as error
use Rattle.packet.specs.declared.header.LongType.{LongType}
use Rattle.packet.specs.declared.header.LongType.TheVariants as ty
use Rattle.packet.specs.declared.header.LongHeaderType.{LongHeaderType}
use Rattle.packet.specs.declared.header.LongHeaderType.TheVariants as kind
use Rattle.packet.specs.declared.header.ProtectedHeader.{ProtectedHeader}
use Rattle.packet.specs.declared.header.ProtectedHeader.TheVariants as head
use Rattle.packet.specs.declared.header.Decoded.{Decoded}
use Rattle.packet.specs.declared.header.SpaceId.{SpaceId}
use Rattle.packet.specs.declared.header.SpaceId.TheVariants as id
use Rattle.packet.specs.declared.partial.PartialDecode.{PartialDecode}
use Rattle.packet.specs.declared.walk.Stepped.{Stepped}
use Rattle.packet.specs.declared.walk.StepError.{StepError}

-- what may be absent, as the definitions have it
abbrev pub option_of : {A : Type 0} → Maybe A → Option A
option_of (Some a) = some a
option_of None = none

-- the header of a type with a Length and no token
abbrev pub long_of : LongType → ℕ → Header
long_of ty.Handshake = handshake
long_of ty.ZeroRtt = zero_rtt

abbrev pub long_type_of : LongHeaderType → PacketType
long_type_of kind.Initial = type.initial
long_type_of kind.Retry = type.retry
long_type_of (kind.Standard ty.Handshake) = type.handshake
long_type_of (kind.Standard ty.ZeroRtt) = type.zero_rtt

abbrev pub header_of : ProtectedHeader → Header
header_of (head.Initial token len) = initial token len
header_of (head.Long ty len) = long_of ty len
header_of head.Retry = retry
header_of (head.Short spin) = short spin
header_of (head.VersionNegotiate random) = negotiate random

abbrev pub space_of : Maybe SpaceId → Option ℕ
space_of (Some id.Initial) = some 0
space_of (Some id.Handshake) = some 1
space_of (Some id.Data) = some 2
space_of None = none

-- a header that was read, and one that was not
unfoldable pub decoded_of : Decoded → Outcome
decoded_of d = record { said = ok (header_of d.header); dst = d.dst_cid; src = d.src_cid; version = d.version; end = d.number_offset }

-- that of a version that is neither 0 nor listed
abbrev pub unsupported_by : ConnectionId → ConnectionId → ℕ → Outcome
unsupported_by dst src version = record { said = no 4; dst = dst; src = src; version = version; end = 0 }

abbrev pub error_of : PacketDecodeError → Outcome
error_of (error.UnsupportedVersion dst src version) = unsupported_by dst src version
error_of (error.Refused why) = refused_header (number_of why)

unfoldable pub outcome_of : Result Decoded PacketDecodeError → Outcome
outcome_of (Ok d) = decoded_of d
outcome_of (Err e) = error_of e

-- the same of what stands past the connection ids up to `end`, with these beside it
unfoldable pub tail_of : (Header → ℕ → Outcome) → Result ProtectedHeader Refusal → ℕ → Outcome
tail_of made (Ok h) end = made (header_of h) end
tail_of made (Err why) end = refused_header (number_of why)

-- a version that is neither 0 nor listed
abbrev pub unlisted : List ℕ → ℕ → Bool
unlisted versions version = not (eqb version 0) && not (listed versions version)

-- a packet that ends there; one whose Length is past the datagram's end is refused 7
unfoldable pub ended_of : Maybe ℕ → Outcome → List ℕ → Split
ended_of (Some n) h s = cut_at h s n
ended_of None h s = no_packet (refused_header 7)

unfoldable pub partial_of : PartialDecode → Split
partial_of d = record { header = decoded_of d.plain_header; packet = d.packet; rest = option_of d.rest }

unfoldable pub split_of : Result PartialDecode PacketDecodeError → Split
split_of (Ok d) = partial_of d
split_of (Err e) = no_packet (error_of e)

-- at the end stands the header of no bytes, refused 1
unfoldable pub packet_step_of : Result (Maybe Stepped) StepError → PacketStep
packet_step_of (Ok (Some x)) = record { met = packet x.packet.start x.packet.len; header = decoded_of x.plain_header }
packet_step_of (Ok None) = record { met = at_end; header = refused_header 1 }
packet_step_of (Err e) = record { met = refused_at e.start; header = error_of e.why }
