-- The walk over a payload, frame after frame: RFC 9000, section 12.4; document 01, "Frames".
use Rattle.std.specs.Prelude.{ℕ, zero, suc, ◌-◌, List, [], ◌∷◌, length, ltb, leb, eqb, if◌then◌else◌}
use Rattle.std.proofs.Math.Option.{none}
use Rattle.coding.specs.Words.{max_datagram}
use Rattle.frame.specs.Table.{Row, FrameOutcome, taken, refused, frame_at}

-- after a frame there is more from the place past it on; after a refusal there is nothing more
unfoldable pub onwards : FrameOutcome → (ℕ → List (ℕ × FrameOutcome)) → List (ℕ × FrameOutcome)
onwards (taken t f n) more = more n
onwards (refused k start t) more = []

-- the frames from a place on, each with its start; each has a byte, so that a payload's length is turns enough
unfoldable pub walk_from : List Row → List ℕ → ℕ → ℕ → List (ℕ × FrameOutcome)
walk_from rows s zero at = []
walk_from rows s (suc turns) at =
    if leb (length s) at then [] else
    (at, frame_at rows s at) ∷ onwards (frame_at rows s at) (walk_from rows s turns)

-- a payload past its rule is 14, one of no bytes 13
unfoldable pub walk : List Row → List ℕ → List (ℕ × FrameOutcome)
walk rows s =
    if ltb max_datagram (length s) then (0, refused 14 0 none) ∷ [] else
    if eqb (length s) 0 then (0, refused 13 0 none) ∷ [] else
    walk_from rows s (length s) 0

-- ---- the step that is repeated

pub data WalkStep : Type 0 where
  frame : FrameOutcome → WalkStep
  end : WalkStep

unfoldable pub step_at : List Row → List ℕ → ℕ → WalkStep
step_at rows s at =
    if ltb max_datagram (length s) then frame (refused 14 at none) else
    if eqb (length s) 0 then frame (refused 13 at none) else
    if leb (length s) at then end else
    frame (frame_at rows s at)

-- up to n steps, from a place on
unfoldable pub stepped : ℕ → WalkStep → (ℕ → List (ℕ × FrameOutcome)) → List (ℕ × FrameOutcome)
stepped at end more = []
stepped at (frame o) more = (at, o) ∷ onwards o more

unfoldable pub repeating : List Row → ℕ → List ℕ → ℕ → List (ℕ × FrameOutcome)
repeating rows zero s at = []
repeating rows (suc n) s at = stepped at (step_at rows s at) (repeating rows n s)

-- how many bytes a step takes: a frame's are up to the place past it, a refused one's all that are left
unfoldable pub took : ℕ → ℕ → WalkStep → ℕ
took len at end = 0
took len at (frame (taken t f n)) = n - at
took len at (frame (refused k start t)) = len - at

unfoldable pub sized : List Row → List ℕ → ℕ → WalkStep × ℕ
sized rows s at = (step_at rows s at, took (length s) at (step_at rows s at))
