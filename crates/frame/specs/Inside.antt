-- Where the parts lie that a frame names: document 01, "parts of the payload". Proved in proofs/Inside.
use Rattle.std.specs.Prelude.{ℕ, ◌+◌, ◌≤◌, ◌<◌, ◌≡◌, length}
use mathlib.Core.List.{List, Memᴰ}
use Rattle.coding.specs.declared.Place.{Place}
use Rattle.frame.specs.Format.{Value, place, said}
use Rattle.frame.specs.Table.{Row, taken, frame_at}
use Rattle.frame.specs.Walk.{frame, step_at}

-- every part among the values lies between two places
abbrev pub PartsBetween : ℕ → ℕ → List Value → Type 0
PartsBetween a b vs = (p : Place) → Memᴰ (place p) vs → (a ≤ p.start) × (p.start + p.len ≤ b)

-- the frame ends past its start and inside the payload, and its parts lie inside the frame
abbrev pub FrameInside : List ℕ → ℕ → List Value → ℕ → Type 0
FrameInside s start vs next = ((start < next) × (next ≤ length s)) × PartsBetween start next vs

-- for every table, every payload and every place: of a frame that is read there, and so of one that a step hands out
abbrev pub PlacesInside : Type 0
PlacesInside =
    (rows : List Row) (s : List ℕ) (start t name : ℕ) (vs : List Value) (next : ℕ) →
    frame_at rows s start ≡ taken t (said name vs) next → FrameInside s start vs next

abbrev pub StepInside : Type 0
StepInside =
    (rows : List Row) (s : List ℕ) (start t name : ℕ) (vs : List Value) (next : ℕ) →
    step_at rows s start ≡ frame (taken t (said name vs) next) → FrameInside s start vs next
