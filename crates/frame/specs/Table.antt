-- The frames: RFC 9000, section 19; RFC 9221 (30 and 31); the ACK frequency draft (1f and af).
use Rattle.std.specs.Prelude.{ℕ, List, [], ◌∷◌, Bool, true, false, cond, leb, if◌then◌else◌}
use Rattle.std.proofs.Math.Option.{Option, some, none}
use Rattle.coding.specs.Words.{and_then}
use Rattle.coding.specs.Varint.{var_at}
use Rattle.frame.specs.Format.{Said, Field, var, or_none, at_most, bytes, rest, fixed, num64, cid, ack_blocks, const, absent, Read, done, refuse, fields_at, bit}

-- a frame's types, from the first to the last, and its fields, which may go by the type
pub record Row : Type 0 where
  pub first : ℕ
  pub last : ℕ
  pub fields : ℕ → List Field

abbrev pub only : ℕ → List Field → Row
only t fs = record { first = t; last = t; fields = λ _. fs }

abbrev pub from_to : ℕ → ℕ → (ℕ → List Field) → Row
from_to a b fs = record { first = a; last = b; fields = fs }

abbrev pub flag : Bool → ℕ
flag false = 0
flag true = 1

abbrev pub ecn_fields : Bool → List Field
ecn_fields true = var ∷ var ∷ var ∷ []
ecn_fields false = absent ∷ []

abbrev pub ack_fields : Bool → List Field
ack_fields ecn = var ∷ var ∷ ack_blocks ∷ ecn_fields ecn

abbrev pub stream_fields : ℕ → List Field
stream_fields t =
    var ∷ (if bit 4 t then var else const 0) ∷ const (flag (bit 1 t)) ∷ const (flag (bit 2 t)) ∷ (if bit 2 t then bytes else rest) ∷ []

abbrev pub count_fields : ℕ → List Field
count_fields way = const way ∷ var ∷ []

abbrev pub data_fields : ℕ → List Field
data_fields t = const (flag (bit 1 t)) ∷ (if bit 1 t then bytes else rest) ∷ []

unfoldable pub table : List Row
table =
    only 0x00 [] ∷  -- PADDING
    only 0x01 [] ∷  -- PING
    from_to 0x02 0x03 (λ t. ack_fields (bit 1 t)) ∷  -- ACK: largest, delay, blocks, the ECN counts (bit 1) or none
    only 0x04 (var ∷ var ∷ var ∷ []) ∷  -- RESET_STREAM: stream id, error code, final size
    only 0x05 (var ∷ var ∷ []) ∷  -- STOP_SENDING: stream id, error code
    only 0x06 (var ∷ bytes ∷ []) ∷  -- CRYPTO: offset, data
    only 0x07 (bytes ∷ []) ∷  -- NEW_TOKEN: token
    from_to 0x08 0x0f stream_fields ∷  -- STREAM: stream id, offset (bit 4) or 0, fin (bit 1), whether a length stands (bit 2), data with it or all that is left
    only 0x10 (var ∷ []) ∷  -- MAX_DATA: maximum
    only 0x11 (var ∷ var ∷ []) ∷  -- MAX_STREAM_DATA: stream id, maximum
    from_to 0x12 0x13 (λ t. count_fields (flag (bit 1 t))) ∷  -- MAX_STREAMS: 0 both ways or 1 one way, maximum
    only 0x14 (var ∷ []) ∷  -- DATA_BLOCKED: limit
    only 0x15 (var ∷ var ∷ []) ∷  -- STREAM_DATA_BLOCKED: stream id, limit
    from_to 0x16 0x17 (λ t. count_fields (flag (bit 1 t))) ∷  -- STREAMS_BLOCKED: 0 or 1, limit
    only 0x18 (var ∷ at_most ∷ cid ∷ fixed 16 ∷ []) ∷  -- NEW_CONNECTION_ID: sequence, retire prior to, id, reset token
    only 0x19 (var ∷ []) ∷  -- RETIRE_CONNECTION_ID: sequence
    only 0x1a (num64 ∷ []) ∷  -- PATH_CHALLENGE: data
    only 0x1b (num64 ∷ []) ∷  -- PATH_RESPONSE: data
    only 0x1c (var ∷ or_none ∷ bytes ∷ []) ∷  -- CONNECTION_CLOSE: error code, frame type or none, reason
    only 0x1d (var ∷ bytes ∷ []) ∷  -- the application's: error code, reason
    only 0x1e [] ∷  -- HANDSHAKE_DONE
    only 0x1f [] ∷  -- IMMEDIATE_ACK
    from_to 0x30 0x31 data_fields ∷  -- DATAGRAM: whether a length stands (bit 1), data with it or all that is left
    only 0xaf (var ∷ var ∷ var ∷ var ∷ []) ∷  -- ACK_FREQUENCY: sequence, threshold, delay, reordering
    []

-- the row of a type
abbrev pub has : ℕ → Row → Bool
has t r = cond (leb r.first t) (leb t r.last) false

abbrev pub look : List Row → ℕ → Option Row
look [] t = none
look (r ∷ rs) t = cond (has t r) (some r) (look rs t)

abbrev pub read_row : Option Row → ℕ → List ℕ → ℕ → Read Said
read_row none t s at = refuse 11
read_row (some r) t s at = fields_at r.first (r.fields t) s at []

-- what follows a type
unfoldable pub frame_body_at : List Row → ℕ → List ℕ → ℕ → Read Said
frame_body_at rows t s at = read_row (look rows t) t s at

-- the type as it was read, the frame, and the place past it; or a refusal's number, the frame's start, and its type once read
pub data FrameOutcome : Type 0 where
  taken : ℕ → Said → ℕ → FrameOutcome
  refused : ℕ → ℕ → Option ℕ → FrameOutcome

unfoldable pub outcome : ℕ → ℕ → Read Said → FrameOutcome
outcome start t (done f n) = taken t f n
outcome start t (refuse k) = refused k start (some t)

-- the frame at a place
unfoldable pub frame_at : List Row → List ℕ → ℕ → FrameOutcome
frame_at rows s start = and_then (var_at s start) (refused 10 start none) (λ t at. outcome start t (frame_body_at rows t s at))
