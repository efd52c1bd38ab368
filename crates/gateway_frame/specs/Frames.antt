-- What a frame says, as records: the table's rows.
use Rattle.std.specs.Prelude.{ℕ, List, [], ◌∷◌, Bool, false, length, ltb, leb, eqb, if◌then◌else◌}
use Rattle.std.proofs.Math.Option.{Option, some}
use Rattle.std.proofs.Math.Option as option
use Rattle.coding.specs.Words.{max_datagram}
use Rattle.coding.specs.Bytes.{byte_at}
use Rattle.frame.specs.Format.{Value, num, place, none, Said, said}
use Rattle.frame.specs.Table.{table, taken, refused}
use Rattle.frame.specs.Walk.{WalkStep, frame, end, step_at}
use Rattle.gateway_frame.specs.Spans.{span_at, span_of}
use Rattle.gateway_frame.specs.declared.records.FrameValue.{FrameValue}
use Rattle.gateway_frame.specs.declared.records.FrameAnswer.{FrameAnswer}
use Rattle.gateway_frame.specs.declared.rows.FrameRow.{FrameRow}

-- a value: 0 nothing, 1 a number, 2 a place in the payload
abbrev pub no_value : FrameValue
no_value = record { kind = 0; number = 0; place = span_at 0 0 }

abbrev pub value_of : Value → FrameValue
value_of none = no_value
value_of (num n) = record { kind = 1; number = n; place = span_at 0 0 }
value_of (place p) = record { kind = 2; number = 0; place = span_of p }

abbrev pub values_of : List Value → List FrameValue
values_of [] = []
values_of (v ∷ vs) = value_of v ∷ values_of vs

-- the first value, and the others; past the last there is nothing. No row has more than six
abbrev pub first_value : List FrameValue → FrameValue
first_value [] = no_value
first_value (v ∷ vs) = v

abbrev pub other_values : List FrameValue → List FrameValue
other_values [] = []
other_values (v ∷ vs) = vs

-- the first six
abbrev pub six_of : List FrameValue → List FrameValue
six_of vs =
    first_value vs
    ∷ first_value (other_values vs)
    ∷ first_value (other_values (other_values vs))
    ∷ first_value (other_values (other_values (other_values vs)))
    ∷ first_value (other_values (other_values (other_values (other_values vs))))
    ∷ first_value (other_values (other_values (other_values (other_values (other_values vs))))) ∷ []

abbrev pub frame_row_with : ℕ → List FrameValue → FrameRow
frame_row_with name vs = record { name = name; values = six_of vs }

abbrev pub frame_row_of : Said → FrameRow
frame_row_of (said name vs) = frame_row_with name (values_of vs)

-- a frame that was read: where it starts, its type as it was read, its row, and the place past it
abbrev pub found_record : ℕ → ℕ → FrameRow → ℕ → FrameAnswer
found_record start t row next =
    record {
      refusal = 0;
      found = 1;
      has_type = 1;
      start = start;
      next = next;
      frame_type = t;
      name = row.name;
      value0 = first_value row.values;
      value1 = first_value (other_values row.values);
      value2 = first_value (other_values (other_values row.values));
      value3 = first_value (other_values (other_values (other_values row.values)));
      value4 = first_value (other_values (other_values (other_values (other_values row.values))));
      value5 = first_value (other_values (other_values (other_values (other_values (other_values row.values)))));
    }

-- an answer without values
abbrev pub no_values : ℕ → ℕ → ℕ → ℕ → ℕ → ℕ → FrameAnswer
no_values k found hasType start next t =
    record {
      refusal = k;
      found = found;
      has_type = hasType;
      start = start;
      next = next;
      frame_type = t;
      name = 0;
      value0 = no_value;
      value1 = no_value;
      value2 = no_value;
      value3 = no_value;
      value4 = no_value;
      value5 = no_value;
    }

-- no frame: the end of the payload, with refusal 0, or a refusal
abbrev pub no_frame : ℕ → ℕ → ℕ → ℕ → FrameAnswer
no_frame k hasType start t = no_values k 0 hasType start 0 t

-- a refusal carries the frame's start, and its type once read
abbrev pub frame_refused : ℕ → ℕ → Option ℕ → FrameAnswer
frame_refused k start option.none = no_frame k 0 start 0
frame_refused k start (some t) = no_frame k 1 start t

unfoldable pub frame_record : ℕ → WalkStep → FrameAnswer
frame_record at (frame (taken t f next)) = found_record at t (frame_row_of f) next
frame_record at (frame (refused k start t)) = frame_refused k start t
frame_record at end = no_frame 0 0 at 0

-- one step of the walk
unfoldable pub frame_for : List ℕ → ℕ → FrameAnswer
frame_for s at = frame_record at (step_at table s at)

-- ---- PADDING, by its byte alone

-- it stands at a place of a payload that keeps its rule
unfoldable pub is_padding : List ℕ → ℕ → Bool
is_padding s at = if ltb max_datagram (length s) then false else if leb (length s) at then false else eqb (byte_at s at) 0

-- what it says, from its start up to the next frame's
abbrev pub padding_record : ℕ → ℕ → FrameAnswer
padding_record start next = no_values 0 1 1 start next 0
