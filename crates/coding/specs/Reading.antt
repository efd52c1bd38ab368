-- Fields of a known length at a place.
use Rattle.std.specs.Prelude.{ℕ, ◌+◌, List, length, take, drop, leb, if◌then◌else◌}
use Rattle.coding.specs.Words.{Got, cut, got}
use Rattle.coding.specs.Bytes.{be}
use Rattle.coding.specs.declared.Place.{Place}

-- the number of n bytes
unfoldable pub fixed_at : ℕ → List ℕ → ℕ → Got ℕ
fixed_at n s at = if leb (at + n) (length s) then got (be 0 (take n (drop at s))) (at + n) else cut

-- the place of n bytes
unfoldable pub take_at : ℕ → List ℕ → ℕ → Got Place
take_at n s at = if leb (at + n) (length s) then got (record { start = at; len = n }) (at + n) else cut
