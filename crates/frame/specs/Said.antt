-- What each case of the code's answers says, in document 01's numbers and values.
use Rattle.std.specs.Prelude.{ℕ, List, [], ◌∷◌, Option, Some, None, Result, Ok, Err}
use Rattle.std.proofs.Math.Option as math
use Rattle.coding.specs.Words.{Got, cut, got, and_then}
use Rattle.coding.specs.Varint.{var_at}
use Rattle.coding.specs.Refusals.{number_of}
use Rattle.coding.specs.declared.Place.{Place}
use Rattle.coding.specs.declared.refusal.Refusal.{Refusal}
use Rattle.shared.specs.Said.{dir_bit}
use Rattle.shared.specs.declared.kinds.FrameType.{FrameType}
use Rattle.ecn.specs.declared.EcnCounts.{EcnCounts}
use Rattle.frame.specs.declared.kinds.Close.{Close}
use Rattle.frame.specs.declared.kinds.Close.TheVariants as close
use Rattle.frame.specs.declared.kinds.Frame.{Frame}
use Rattle.frame.specs.declared.kinds.Frame.TheVariants as frame
use Rattle.frame.specs.declared.FrameRead.{FrameRead}
use Rattle.frame.specs.declared.InvalidFrame.{InvalidFrame}
use Rattle.frame.specs.declared.SizedStep.{SizedStep}
use Rattle.frame.specs.Format.{Value, num, place, none, Said, said, Read, done, refuse}
use Rattle.frame.specs.Table.{flag, FrameOutcome, taken, refused}
use Rattle.frame.specs.Walk.{WalkStep, end}
use Rattle.frame.specs.Walk as walk

abbrev pub type_value : Option FrameType → Value
type_value None = none
type_value (Some t) = num t.0

abbrev pub type_seen : Option FrameType → math.Option ℕ
type_seen None = math.none
type_seen (Some t) = math.some t.0

abbrev pub ecn_values : Option EcnCounts → List Value
ecn_values None = none ∷ []
ecn_values (Some x) = num x.ect0 ∷ num x.ect1 ∷ num x.ce ∷ []

abbrev pub close_said : Close → Said
close_said (close.Connection x) = said 0x1c (num x.error_code ∷ type_value x.frame_type ∷ place x.reason ∷ [])
close_said (close.Application x) = said 0x1d (num x.error_code ∷ place x.reason ∷ [])

abbrev pub frame_said : Frame → Said
frame_said frame.Padding = said 0x00 []
frame_said frame.Ping = said 0x01 []
frame_said (frame.Ack x) = said 0x02 (num x.largest.0 ∷ num x.delay ∷ place x.additional ∷ ecn_values x.ecn)
frame_said (frame.ResetStream x) = said 0x04 (num x.id.0 ∷ num x.error_code ∷ num x.final_offset ∷ [])
frame_said (frame.StopSending x) = said 0x05 (num x.id.0 ∷ num x.error_code ∷ [])
frame_said (frame.Crypto x) = said 0x06 (num x.offset ∷ place x.«data» ∷ [])
frame_said (frame.NewToken x) = said 0x07 (place x.token ∷ [])
frame_said (frame.Stream x) = said 0x08 (num x.id.0 ∷ num x.offset ∷ num (flag x.fin) ∷ num (flag x.len) ∷ place x.«data» ∷ [])
frame_said (frame.MaxData n) = said 0x10 (num n ∷ [])
frame_said (frame.MaxStreamData id offset) = said 0x11 (num id.0 ∷ num offset ∷ [])
frame_said (frame.MaxStreams dir count) = said 0x12 (num (dir_bit dir) ∷ num count ∷ [])
frame_said (frame.DataBlocked offset) = said 0x14 (num offset ∷ [])
frame_said (frame.StreamDataBlocked id offset) = said 0x15 (num id.0 ∷ num offset ∷ [])
frame_said (frame.StreamsBlocked dir limit) = said 0x16 (num (dir_bit dir) ∷ num limit ∷ [])
frame_said (frame.NewConnectionId x) = said 0x18 (num x.sequence ∷ num x.retire_prior_to ∷ place x.id ∷ place x.reset_token ∷ [])
frame_said (frame.RetireConnectionId sequence) = said 0x19 (num sequence ∷ [])
frame_said (frame.PathChallenge n) = said 0x1a (num n ∷ [])
frame_said (frame.PathResponse n) = said 0x1b (num n ∷ [])
frame_said (frame.Close x) = close_said x
frame_said (frame.Datagram x) = said 0x30 (num (flag x.len) ∷ place x.«data» ∷ [])
frame_said (frame.AckFrequency x) =
    said 0xaf (num x.sequence ∷ num x.ack_eliciting_threshold ∷ num x.request_max_ack_delay ∷ num x.reordering_threshold ∷ [])
frame_said frame.ImmediateAck = said 0x1f []
frame_said frame.HandshakeDone = said 0x1e []

-- what was read up to `next`
unfoldable pub field_of : Result Place Refusal → ℕ → Read Place
field_of (Ok p) next = done p next
field_of (Err why) next = refuse (number_of why)

unfoldable pub body_of : Result Frame Refusal → ℕ → Read Said
body_of (Ok f) next = done (frame_said f) next
body_of (Err why) next = refuse (number_of why)

-- three integers: the ECN counts
unfoldable pub counts_at : List ℕ → ℕ → Got EcnCounts
counts_at s at =
    and_then (var_at s at) cut (λ ect0 p.
    and_then (var_at s p) cut (λ ect1 q.
    and_then (var_at s q) cut (λ ce n.
    got (record { ect0 = ect0; ect1 = ect1; ce = ce }) n)))

unfoldable pub said_of : Result FrameRead InvalidFrame → FrameOutcome
said_of (Ok r) = taken r.ty.0 (frame_said r.frame) r.next
said_of (Err e) = refused (number_of e.why) e.start (type_seen e.ty)

unfoldable pub step_of : Option (Result FrameRead InvalidFrame) → WalkStep
step_of (Some r) = walk.frame (said_of r)
step_of None = end

unfoldable pub sized_step_of : SizedStep → WalkStep × ℕ
sized_step_of r = (step_of r.step, r.size)
