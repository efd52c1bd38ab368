-- What an answer says gives the answer back: no two answers say the same.
use Rattle.std.specs.Prelude.{Option, Some, None, Result, Ok, Err}
use mathlib.Core.Path.{◌≡◌, refl, ap}
use mathlib.Core.List.{List}
use mathlib.Core.Bool.{Bool, true, false, cond}
use mathlib.Core.Option as math
use Prim.Native.Nat.{ℕ}
use lib.Dec.{eqb}
use Rattle.coding.specs.declared.Place.{Place}
use Rattle.coding.proofs.Numbers.{refusal_of, refusal_back}
use Rattle.coding.proofs.Inverse.{one_by}
use Rattle.shared.specs.declared.kinds.Dir.{Dir}
use Rattle.shared.specs.declared.kinds.Dir.TheVariants as dir
use Rattle.shared.specs.declared.kinds.StreamId.{StreamId}
use Rattle.shared.specs.declared.kinds.FrameType.{FrameType}
use Rattle.ecn.specs.declared.EcnCounts.{EcnCounts}
use Rattle.frame.specs.declared.kinds.Close.TheVariants as close
use Rattle.frame.specs.declared.kinds.Frame.{Frame}
use Rattle.frame.specs.declared.kinds.Frame.TheVariants as frame
use Rattle.frame.specs.declared.FrameRead.{FrameRead}
use Rattle.frame.specs.declared.InvalidFrame.{InvalidFrame}
use Rattle.frame.specs.declared.SizedStep.{SizedStep}
use Rattle.frame.specs.Format.{Value, num, place, none, Said, said}
use Rattle.frame.specs.Table.{FrameOutcome, taken, refused}
use Rattle.frame.specs.Types.{nth, num_of}
use Rattle.frame.specs.Walk.{WalkStep, end}
use Rattle.frame.specs.Walk as walk
use Rattle.frame.specs.Said.{type_seen, frame_said, said_of, step_of, sized_step_of}

-- ---- a value back in its kind

abbrev place_in : Value → Place
place_in (num n) = record { start = 0; len = 0 }
place_in (place p) = p
place_in none = record { start = 0; len = 0 }

abbrev type_in : Value → Option FrameType
type_in (num n) = Some (record { 0 = n })
type_in (place p) = None
type_in none = None

abbrev dir_in : ℕ → Dir
dir_in n = cond (eqb n 0) dir.Bi dir.Uni

-- the counts from the fourth value on
abbrev ecn_from : Value → List Value → Option EcnCounts
ecn_from (num x) vs = Some (record { ect0 = x; ect1 = num_of (nth vs 4); ce = num_of (nth vs 5) })
ecn_from (place p) vs = None
ecn_from none vs = None

-- ---- the frame of a name with these values

abbrev pub frame_of : ℕ → List Value → Frame
frame_of name vs =
    let n : ℕ → ℕ = λ i. num_of (nth vs i) in
    let p : ℕ → Place = λ i. place_in (nth vs i) in
    let id : StreamId = record { 0 = n 0 } in
    let yes : ℕ → Bool = λ i. eqb (n i) 1 in
    cond (eqb name 0x00) frame.Padding
    (cond (eqb name 0x01) frame.Ping
    (cond (eqb name 0x02) (frame.Ack (record { largest = record { 0 = n 0 }; delay = n 1; additional = p 2; ecn = ecn_from (nth vs 3) vs }))
    (cond (eqb name 0x04) (frame.ResetStream (record { id = id; error_code = n 1; final_offset = n 2 }))
    (cond (eqb name 0x05) (frame.StopSending (record { id = id; error_code = n 1 }))
    (cond (eqb name 0x06) (frame.Crypto (record { offset = n 0; «data» = p 1 }))
    (cond (eqb name 0x07) (frame.NewToken (record { token = p 0 }))
    (cond (eqb name 0x08) (frame.Stream (record { id = id; offset = n 1; fin = yes 2; len = yes 3; «data» = p 4 }))
    (cond (eqb name 0x10) (frame.MaxData (n 0))
    (cond (eqb name 0x11) (frame.MaxStreamData id (n 1))
    (cond (eqb name 0x12) (frame.MaxStreams (dir_in (n 0)) (n 1))
    (cond (eqb name 0x14) (frame.DataBlocked (n 0))
    (cond (eqb name 0x15) (frame.StreamDataBlocked id (n 1))
    (cond (eqb name 0x16) (frame.StreamsBlocked (dir_in (n 0)) (n 1))
    (cond (eqb name 0x18) (frame.NewConnectionId (record { sequence = n 0; retire_prior_to = n 1; id = p 2; reset_token = p 3 }))
    (cond (eqb name 0x19) (frame.RetireConnectionId (n 0))
    (cond (eqb name 0x1a) (frame.PathChallenge (n 0))
    (cond (eqb name 0x1b) (frame.PathResponse (n 0))
    (cond (eqb name 0x1c) (frame.Close (close.Connection (record { error_code = n 0; frame_type = type_in (nth vs 1); reason = p 2 })))
    (cond (eqb name 0x1d) (frame.Close (close.Application (record { error_code = n 0; reason = p 1 })))
    (cond (eqb name 0x1e) frame.HandshakeDone
    (cond (eqb name 0x1f) frame.ImmediateAck
    (cond (eqb name 0x30) (frame.Datagram (record { len = yes 0; «data» = p 1 }))
    (frame.AckFrequency
    (record { sequence = n 0; ack_eliciting_threshold = n 1; request_max_ack_delay = n 2; reordering_threshold = n 3 }))))))))))))))))))))))))

abbrev pub unsaid : Said → Frame
unsaid (said name vs) = frame_of name vs

flag_back : (id : StreamId) (offset : ℕ) (fin len : Bool) (p : Place)
    → unsaid (frame_said (frame.Stream (record { id = id; offset = offset; fin = fin; len = len; «data» = p }))) ≡ frame.Stream (record { id = id; offset = offset; fin = fin; len = len; «data» = p })
flag_back id offset true true p = refl
flag_back id offset true false p = refl
flag_back id offset false true p = refl
flag_back id offset false false p = refl

ecn_back : (l d : ℕ) (p : Place) (e : Option EcnCounts)
    → unsaid (frame_said (frame.Ack (record { largest = record { 0 = l }; delay = d; additional = p; ecn = e })))
    ≡ frame.Ack (record { largest = record { 0 = l }; delay = d; additional = p; ecn = e })
ecn_back l d p None = refl
ecn_back l d p (Some x) = refl

type_back : (code : ℕ) (t : Option FrameType) (p : Place)
    → unsaid (frame_said (frame.Close (close.Connection (record { error_code = code; frame_type = t; reason = p }))))
    ≡ frame.Close (close.Connection (record { error_code = code; frame_type = t; reason = p }))
type_back code None p = refl
type_back code (Some t) p = refl

len_back : (len : Bool) (p : Place) → unsaid (frame_said (frame.Datagram (record { len = len; «data» = p }))) ≡ frame.Datagram (record { len = len; «data» = p })
len_back true p = refl
len_back false p = refl

pub frame_back : (f : Frame) → unsaid (frame_said f) ≡ f
frame_back frame.Padding = refl
frame_back frame.Ping = refl
frame_back (frame.Ack x) = ecn_back x.largest.0 x.delay x.additional x.ecn
frame_back (frame.ResetStream x) = refl
frame_back (frame.StopSending x) = refl
frame_back (frame.Crypto x) = refl
frame_back (frame.NewToken x) = refl
frame_back (frame.Stream x) = flag_back x.id x.offset x.fin x.len x.«data»
frame_back (frame.MaxData n) = refl
frame_back (frame.MaxStreamData id n) = refl
frame_back (frame.MaxStreams dir.Bi n) = refl
frame_back (frame.MaxStreams dir.Uni n) = refl
frame_back (frame.DataBlocked n) = refl
frame_back (frame.StreamDataBlocked id n) = refl
frame_back (frame.StreamsBlocked dir.Bi n) = refl
frame_back (frame.StreamsBlocked dir.Uni n) = refl
frame_back (frame.NewConnectionId x) = refl
frame_back (frame.RetireConnectionId n) = refl
frame_back (frame.PathChallenge n) = refl
frame_back (frame.PathResponse n) = refl
frame_back (frame.Close (close.Connection x)) = type_back x.error_code x.frame_type x.reason
frame_back (frame.Close (close.Application x)) = refl
frame_back (frame.Datagram x) = len_back x.len x.«data»
frame_back (frame.AckFrequency x) = refl
frame_back frame.ImmediateAck = refl
frame_back frame.HandshakeDone = refl

-- ---- the answers

abbrev type_out : math.Option ℕ → Option FrameType
type_out math.none = None
type_out (math.some t) = Some (record { 0 = t })

seen_back : (t : Option FrameType) → type_out (type_seen t) ≡ t
seen_back None = refl
seen_back (Some t) = refl

abbrev pub read_of : FrameOutcome → Result FrameRead InvalidFrame
read_of (taken t f n) = Ok (record { frame = unsaid f; ty = record { 0 = t }; next = n })
read_of (refused k start t) = Err (record { why = refusal_of k; start = start; ty = type_out t })

read_back : (r : Result FrameRead InvalidFrame) → read_of (said_of r) ≡ r
unfolding said_of
read_back (Ok r) = λ i. Ok (record { frame = frame_back r.frame i; ty = r.ty; next = r.next })
read_back (Err e) = λ i. Err (record { why = refusal_back e.why i; start = e.start; ty = seen_back e.ty i })

abbrev step_in : WalkStep → Option (Result FrameRead InvalidFrame)
step_in (walk.frame o) = Some (read_of o)
step_in end = None

step_back : (r : Option (Result FrameRead InvalidFrame)) → step_in (step_of r) ≡ r
unfolding step_of
step_back (Some r) = ap Some (read_back r)
step_back None = refl

pub read_one : (x y : Result FrameRead InvalidFrame) (o : FrameOutcome) → said_of x ≡ o → said_of y ≡ o → x ≡ y
read_one = one_by said_of read_of read_back

pub step_one : (x y : Option (Result FrameRead InvalidFrame)) (s : WalkStep) → step_of x ≡ s → step_of y ≡ s → x ≡ y
step_one = one_by step_of step_in step_back

pub sized_one : (x y : SizedStep) (s : WalkStep × ℕ) → sized_step_of x ≡ s → sized_step_of y ≡ s → x ≡ y
unfolding sized_step_of
sized_one = one_by sized_step_of (λ s. record { step = step_in s.0; size = s.1 }) (λ r i. record { step = step_back r.step i; size = r.size })
