-- Connection ids: RFC 9000, 5.1 and 17.2. A version 1 connection id is at most 20 bytes long.
use Rattle.std.specs.Prelude.{ℕ, ◌-◌, List, [], ◌∷◌, ◌++◌, length, take, replicate, leb, if◌then◌else◌}
use Rattle.coding.specs.Words.{Got, cut, and_then, Answer, no, ok}
use Rattle.coding.specs.Places.{part_of}
use Rattle.coding.specs.Reading.{fixed_at, take_at}
use Rattle.coding.specs.declared.Place.{Place}
use Rattle.shared.specs.declared.cid.ConnectionId.{ConnectionId}

abbrev pub max_cid : ℕ
max_cid = 20

-- the connection id of at most 20 bytes: its length, and an array of 20 with zeros past them
unfoldable pub cid_of : List ℕ → ConnectionId
cid_of bs = record { len = length bs; bytes = bs ++ replicate (max_cid - length bs) 0 }

-- the one at a place; the empty one where the place does not lie inside or is longer than 20 bytes
unfoldable pub cid_on : List ℕ → Place → ConnectionId
cid_on s p = if leb p.len max_cid then cid_of (part_of s p) else cid_of []

-- its place in a long header: a length byte of at most 20, and as many bytes
unfoldable pub long_cid_at : List ℕ → ℕ → Got Place
long_cid_at s at = and_then (fixed_at 1 s at) cut (λ len next. if leb len max_cid then take_at len s next else cut)

-- ---- what a call that makes one answers: the place past it, or a refusal, and the connection id

-- beside a refusal stands the empty one
unfoldable pub no_cid : ℕ → Answer ℕ × ConnectionId
no_cid k = (no k, cid_of [])

-- of given bytes: 14 above 20
unfoldable pub cid_new : List ℕ → Answer ℕ × ConnectionId
cid_new bs = if leb (length bs) max_cid then (ok (length bs), cid_of bs) else no_cid 14

-- of n bytes that are read: 14 above 20, then 10 where they are cut
unfoldable pub cid_from : ℕ → List ℕ → ℕ → Answer ℕ × ConnectionId
cid_from n s at = if leb n max_cid then and_then (take_at n s at) (no_cid 10) (λ p next. (ok next, cid_on s p)) else no_cid 14

-- in a long header: 3 where the length byte or the bytes are cut, or the length is above 20
unfoldable pub cid_long : List ℕ → ℕ → Answer ℕ × ConnectionId
cid_long s at = and_then (long_cid_at s at) (no_cid 3) (λ p next. (ok next, cid_on s p))

-- ---- what is written

-- its bytes: as many of the array as its length says, whatever stands past them
unfoldable pub cid_bytes : ConnectionId → List ℕ
cid_bytes c = take c.len c.bytes

-- in a long header the length stands before them
unfoldable pub long_bytes : ConnectionId → List ℕ
long_bytes c = c.len ∷ cid_bytes c

-- a length above 20 is 14
unfoldable pub long_out : ConnectionId → Answer (List ℕ)
long_out c = if leb c.len max_cid then ok (long_bytes c) else no 14

-- what puts store: above 20, nothing
unfoldable pub cid_put : ConnectionId → List ℕ
cid_put c = if leb c.len max_cid then cid_bytes c else []

unfoldable pub long_put : ConnectionId → List ℕ
long_put c = if leb c.len max_cid then long_bytes c else []
