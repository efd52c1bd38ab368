-- A place names a part of a lent slice; one that does not lie inside names the empty part.
use Rattle.std.specs.Prelude.{ℕ, ◌+◌, ◌≡◌, List, [], length, take, drop, leb, if◌then◌else◌}
use Rattle.std.specs.Borrow.{Bor}
use Rattle.coding.specs.declared.Place.{Place}

-- the bytes of the part
unfoldable pub part_of : List ℕ → Place → List ℕ
part_of s p = if leb (p.start + p.len) (length s) then take p.len (drop p.start s) else []

-- where it starts
unfoldable pub start_of : List ℕ → Place → ℕ
start_of s p = if leb (p.start + p.len) (length s) then p.start else 0

-- r is a part of the lent slice s itself: in the same block of memory, from start on, with these bytes
pub record Part (s r : Bor (List ℕ)) (start : ℕ) (l : List ℕ) : Type 0 where
  pub bytes : r.now ≡ l
  pub block : r.ref_ptr.0 ≡ s.ref_ptr.0
  pub offset : r.ref_ptr.1 ≡ s.ref_ptr.1 + start
