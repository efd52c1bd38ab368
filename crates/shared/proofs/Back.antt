-- What is written of a CID is read back, wherever it stands.
use mathlib.Core.Path.{◌≡◌, refl, sym, ◌∙◌}
use mathlib.Core.List.{List, [], ◌∷◌, ◌++◌}
use Prim.Native.Nat.{ℕ, ◌+◌, ◌-◌, ◌%◌, ◌≤◌}
use native.Mathlib.Omega.{arith}
use lib.ListN.{length, take, drop, replicate, length-append}
use lib.Seq.{drop-append-add, take_at}
use borrow.Author.Tests.{le-leb}
use Rattle.coding.specs.Words.{got, and_then, ok}
use Rattle.coding.specs.Places.{part_of}
use Rattle.coding.specs.Reading.{fixed_at}
use Rattle.coding.specs.declared.Place.{Place}
use Rattle.coding.proofs.Laws.{take_some, part_in}
use Rattle.coding.proofs.Back.{fixed_back}
use Rattle.shared.specs.Cid.{cid_of, cid_on, long_cid_at, cid_long, cid_bytes, long_bytes}
use Rattle.shared.specs.declared.cid.ConnectionId.{ConnectionId}
use Rattle.shared.proofs.Laws.{one_byte, length_cid}

-- where the bytes stand, behind the length byte
abbrev pub behind : ℕ → ConnectionId → Place
behind at c = record { start = at + 1; len = c.len }

module _ (p q : List ℕ) (c : ConnectionId) (short : c.len ≤ 20) (all : c.len ≤ length c.bytes) where
  within : length p + 1 + c.len ≤ length (p ++ (long_bytes c ++ q))
  unfolding long_bytes
  within = simp length-append (omega (arith, length_cid c all))

  -- the place is found
  pub long_back : long_cid_at (p ++ (long_bytes c ++ q)) (length p) ≡ got (behind (length p) c) (length p + 1 + c.len)
  unfolding long_cid_at and_then long_bytes
  long_back =
      let f : fixed_at 1 (p ++ ((c.len ∷ []) ++ (cid_bytes c ++ q))) (length p) ≡ got (c.len % 256) (length p + 1)
      = rw (one_byte c.len (omega arith)) at (fixed_back p (cid_bytes c ++ q) 1 c.len) in
      let m : c.len % 256 ≡ c.len = omega arith in
      rw (f, m, le-leb _ _ short) (sym (take_some c.len (p ++ (long_bytes c ++ q)) (length p + 1) within))

  -- and the bytes stand there
  pub bytes_back : part_of (p ++ (long_bytes c ++ q)) (behind (length p) c) ≡ cid_bytes c
  unfolding long_bytes
  bytes_back =
      let d : drop (length p + 1) (p ++ (long_bytes c ++ q)) ≡ cid_bytes c ++ q = drop-append-add p (long_bytes c ++ q) 1 in
      let t : take c.len (cid_bytes c ++ q) ≡ cid_bytes c = take_at (cid_bytes c) q c.len (length_cid c all) in
      sym (part_in (p ++ (long_bytes c ++ q)) (behind (length p) c) c.len refl within) ∙ rw (d, t)

  -- so the CID comes back, with zeros past its length
  pub cid_back : cid_long (p ++ (long_bytes c ++ q)) (length p) ≡ (ok (length p + 1 + c.len), cid_of (cid_bytes c))
  unfolding cid_long cid_on and_then
  cid_back = rw (long_back, le-leb _ _ short, bytes_back)

-- one that has zeros past its length comes back as it was
pub cid_same : (bs : List ℕ) → cid_bytes (cid_of bs) ≡ bs
unfolding cid_bytes cid_of
cid_same bs = take_at bs (replicate (20 - length bs) 0) (length bs) refl
