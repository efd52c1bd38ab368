-- One turn of the dump. This serves private functions.
use Rattle.std.specs.Prelude.{ℕ, ◌≤◌, ◌≡◌, List, [], ◌∷◌, Bool, true, false, length, if◌then◌else◌}
use Rattle.std.specs.Prelude.{Option as Maybe}
use Rattle.coding.specs.Bytes.{splice}
use Rattle.coding.specs.Writing.{Put}
use Rattle.packet.specs.Said.{option_of}
use Rattle.packet.specs.Walk.{PacketStep, packet_step_at}
use Rattle.dump_text.specs.Dump.{line_of, dump_text, next_of}

-- the step at a place, and its line
abbrev pub step_here : List ℕ → ℕ → PacketStep
step_here s at = packet_step_at s at 0 (1 ∷ []) false

unfoldable pub line_at : List ℕ → ℕ → List ℕ
line_at s at = line_of (length s) (step_here s at).met (step_here s at).header

-- the line is put, and the next step is known
pub record Turned (s : List ℕ) (at : ℕ) (old : List ℕ) (p : ℕ) (r : Maybe ℕ × ℕ) (new : List ℕ) : Type 0 where
  pub next : option_of r.0 ≡ next_of (step_here s at).met
  pub line : Put (line_at s at) old p r.1 new

-- ---- all lines: each at the start of the buffer, where they are only to be counted, or one after the other

abbrev pub place_after : Bool → ℕ → ℕ
place_after anew q = if anew then 0 else q

-- room for each line, or for all of them
unfoldable pub Roomy : Bool → List ℕ → ℕ → Type 0
Roomy true s room = 80 ≤ room
Roomy false s room = length (dump_text s) ≤ room

-- how long they are together, and, where they stand one after the other, the buffer
pub record AllPut (s : List ℕ) (anew : Bool) (old : List ℕ) (r : ℕ) (new : List ℕ) : Type 0 where
  pub len : r ≡ length (dump_text s)
  pub bytes : anew ≡ false → new ≡ splice old 0 (dump_text s)
