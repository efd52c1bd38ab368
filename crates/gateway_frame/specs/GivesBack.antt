-- What a frame's record gives back: the table's values. `frame_step_back` undoes `frame_for`; the law is proved in proofs/FrameBack.
use Rattle.std.specs.Prelude.{ℕ, ◌≤◌, ◌≡◌, List, [], ◌∷◌, length, take, eqb, if◌then◌else◌}
use Rattle.std.proofs.Math.Option.{Option, some}
use Rattle.std.proofs.Math.Option as option
use Rattle.frame.specs.Format.{Value, num, place, none, Said, said}
use Rattle.frame.specs.Table.{Row, look, table, taken, refused}
use Rattle.frame.specs.Walk.{WalkStep, frame, end, step_at}
use Rattle.gateway_frame.specs.Spans.{place_back}
use Rattle.gateway_frame.specs.Frames.{frame_for}
use Rattle.gateway_frame.specs.declared.records.FrameValue.{FrameValue}
use Rattle.gateway_frame.specs.declared.records.FrameAnswer.{FrameAnswer}

abbrev pub value_back : FrameValue → Value
value_back v = if eqb v.kind 1 then num v.number else if eqb v.kind 2 then place (place_back v.place) else none

abbrev pub values_back : FrameAnswer → List Value
values_back r =
    value_back r.value0
    ∷ value_back r.value1 ∷ value_back r.value2 ∷ value_back r.value3 ∷ value_back r.value4 ∷ value_back r.value5 ∷ []

-- how many values a type's row has: one for each field
abbrev pub count_in : Option Row → ℕ → ℕ
count_in option.none t = 0
count_in (some r) t = length (r.fields t)

abbrev pub AtMostSix : List Row → Type 0
AtMostSix rows = (t : ℕ) → count_in (look rows t) t ≤ 6

-- what the frame says: its name, and as many values as its type's row has
abbrev pub said_back : List Row → FrameAnswer → Said
said_back rows r = said r.name (take (count_in (look rows r.frame_type) r.frame_type) (values_back r))

abbrev pub type_back : FrameAnswer → Option ℕ
type_back r = if eqb r.has_type 0 then option.none else some r.frame_type

abbrev pub frame_step_back : List Row → FrameAnswer → WalkStep
frame_step_back rows r =
    if eqb r.found 1 then frame (taken r.frame_type (said_back rows r) r.next) else
    if eqb r.refusal 0 then end else
    frame (refused r.refusal r.start (type_back r))

-- for every payload and place: the record, beside the frame's start, is what the step of the walk says
abbrev pub FrameGivesBack : Type 0
FrameGivesBack = (s : List ℕ) (at : ℕ) → (frame_step_back table (frame_for s at) ≡ step_at table s at) × ((frame_for s at).start ≡ at)
