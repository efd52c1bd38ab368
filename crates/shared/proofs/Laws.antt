-- Laws of the definitions, for this crate's proofs and those above it.
use mathlib.Core.Path.{◌≡◌, refl, ap, ◌∙◌}
use mathlib.Core.List.{List, [], ◌∷◌, ◌++◌}
use Prim.Native.Nat.{ℕ, zero, suc, ◌+◌, ◌-◌, ◌*◌, ◌/◌, ◌%◌, ◌^◌, ◌≤◌, ◌<◌}
use native.Mathlib.Numerals.{unary_clauses}
use native.Mathlib.Omega.{arith}
use lib.ListN.{length, take, drop, replicate, length-take, length-drop}
use lib.Seq.{take_all, length-take-le}
use Rattle.std.proofs.lemmas.List.{drop-replicate}
use lib.Dec.{leb}
use borrow.Author.Tests.{leb-true, le-leb, lt-leb, lt-ltb}
use Rattle.coding.specs.Words.{Got, cut, got, no, ok}
use Rattle.coding.specs.Bytes.{bytes_be, splice}
use Rattle.coding.specs.Places.{part_of}
use Rattle.coding.specs.Reading.{fixed_at, take_at}
use Rattle.coding.specs.declared.Place.{Place}
use Rattle.coding.proofs.Laws.{fixed_inside, take_inside, splice_splice, length_splice}
use Rattle.coding.proofs.Rules.{if_all, then_all}
use Rattle.shared.specs.Cid.{long_cid_at, cid_bytes, long_bytes, long_out, cid_put, long_put}
use Rattle.shared.specs.Streams.{initiator_of, dir_of, index_of, stream_id, stream_made}
use Rattle.shared.specs.declared.cid.ConnectionId.{ConnectionId}

-- ---- where a CID stands

-- a part is no longer than its place says
pub part_short : (s : List ℕ) (p : Place) → length (part_of s p) ≤ p.len
unfolding part_of
part_short s p =
    if_all (λ (l : List ℕ). length l ≤ p.len) (leb (p.start + p.len) (length s)) (take p.len (drop p.start s)) []
    (λ e. simp length-take (omega arith))
    (λ e. omega arith)

-- ---- an array of zeros that is filled from its front

take_on : (at n : ℕ) (l : List ℕ) → take at l ++ take n (drop at l) ≡ take (at + n) l
take_on zero n l = let e : n ≡ zero + n = omega arith in ap (λ (k : ℕ). take k l) e
take_on (suc at) zero [] = simp unary_clauses refl
take_on (suc at) (suc n) [] = simp unary_clauses refl
take_on (suc at) n (x ∷ l) =
    let e : suc (at + n) ≡ suc at + n = omega arith in
    ap (λ (r : List ℕ). x ∷ r) (take_on at n l) ∙ ap (λ (k : ℕ). take k (x ∷ l)) e

-- n bytes more
pub copied_more : (bytes all : List ℕ) (at n : ℕ) → length bytes ≤ 20 → at + n ≤ length bytes → all ≡ splice (replicate 20 0) 0 (take at bytes)
    → splice all at (take n (drop at bytes)) ≡ splice (replicate 20 0) 0 (take (at + n) bytes)
copied_more bytes all at n h k e =
    let zeros : List ℕ = replicate 20 0 in
    let xs : List ℕ = take at bytes in
    let ys : List ℕ = take n (drop at bytes) in
    let a : length xs ≡ at = length-take-le at bytes (omega arith) in
    let b : length ys ≡ n = length-take-le n (drop at bytes) (simp length-drop (omega arith)) in
    let c : splice (splice zeros 0 xs) (0 + length xs) ys ≡ splice zeros 0 (xs ++ ys) = splice_splice zeros xs ys 0 (omega arith) in
    let q : 0 + length xs ≡ at = omega arith in
    rw (e, ← take_on at n bytes) (rw q at c)

-- its length
pub copied_length : (bytes all : List ℕ) (at : ℕ) → length bytes ≤ 20 → all ≡ splice (replicate 20 0) 0 (take at bytes) → length all ≡ 20
copied_length bytes all at h e =
    let zeros : List ℕ = replicate 20 0 in
    let k : 0 + length (take at bytes) ≤ length zeros = simp length-take (omega arith) in
    ap length e ∙ length_splice zeros (take at bytes) 0 k

-- and the whole
pub copied_all : (bytes all : List ℕ) (at : ℕ) → at ≤ length bytes → length bytes - at < 1 → all ≡ splice (replicate 20 0) 0 (take at bytes)
    → all ≡ bytes ++ replicate (20 - length bytes) 0
unfolding splice
copied_all bytes all at h k e =
    let n : at ≡ length bytes = omega arith in
    let z : ℕ = 0 in
    let q : 0 + length bytes ≡ length bytes = omega arith in
    e ∙ rw (n, take_all (length bytes) bytes (omega arith), q) (ap (λ (r : List ℕ). bytes ++ r) (drop-replicate (length bytes) 20 z))

-- a CID that was found behind its length byte
pub record InLong (s : List ℕ) (at : ℕ) (p : Place) (next : ℕ) : Type 0 where
  pub starts : p.start ≡ at + 1
  pub short : p.len ≤ 20
  pub past : next ≡ p.start + p.len
  pub inside : next ≤ length s

pub long_inside : (s : List ℕ) (at : ℕ) (p : Place) (next : ℕ) → long_cid_at s at ≡ got p next → InLong s at p next
unfolding long_cid_at
long_inside s at p next =
    then_all (λ (m : Got Place). m ≡ got p next → InLong s at p next) (fixed_at 1 s at) cut _
    (λ e h. let z : ◌≡◌ {A = ℕ} 0 1 = cc in absurd (omega arith))
    (λ len n e.
    if_all (λ (m : Got Place). m ≡ got p next → InLong s at p next) (leb len 20) (take_at len s n) cut
    (λ t h. found len n (fixed_inside 1 s at len n e) (leb-true _ _ t) (take_inside len s n p next h))
    (λ t h. let z : ◌≡◌ {A = ℕ} 0 1 = cc in absurd (omega arith)))
  where
    found : (len n : ℕ) → (n ≡ at + 1) × (n ≤ length s) → len ≤ 20
        → ((p.start ≡ n) × (p.len ≡ len)) × ((next ≡ n + len) × (next ≤ length s)) → InLong s at p next
    found len n a b c = record { starts = omega arith; short = omega arith; past = omega arith; inside = omega arith }

-- ---- what is written of a CID

-- a byte by itself
pub one_byte : (x : ℕ) → x < 256 → bytes_be 1 x ≡ x ∷ []
unfolding bytes_be
one_byte x h = let e : x / 256 ^ 0 % 256 ≡ x = omega arith in rw e

module _ (c : ConnectionId) where
  pub length_cid : c.len ≤ length c.bytes → length (cid_bytes c) ≡ c.len
  unfolding cid_bytes
  length_cid h = simp length-take (omega arith)

  pub length_long : c.len ≤ length c.bytes → length (long_bytes c) ≡ 1 + c.len
  unfolding long_bytes
  length_long h = omega (arith, length_cid h)

  -- at most 20 bytes
  module _ (h : c.len ≤ 20) where
    pub cid_some : cid_put c ≡ cid_bytes c
    unfolding cid_put
    cid_some = simp (le-leb _ _ h)

    pub long_some : long_put c ≡ long_bytes c
    unfolding long_put
    long_some = simp (le-leb _ _ h)

    pub out_some : long_out c ≡ ok (long_bytes c)
    unfolding long_out
    out_some = simp (le-leb _ _ h)

  -- more
  module _ (h : 20 < c.len) where
    pub cid_nothing : cid_put c ≡ []
    unfolding cid_put
    cid_nothing = simp (lt-leb _ _ h)

    pub long_nothing : long_put c ≡ []
    unfolding long_put
    long_nothing = simp (lt-leb _ _ h)

    pub out_none : long_out c ≡ no 14
    unfolding long_out
    out_none = simp (lt-leb _ _ h)

-- ---- stream ids

-- the parts of a stream id give it back
pub stream_parts : (id : ℕ) → id < 2 ^ 62 → stream_made (initiator_of id) (dir_of id) (index_of id) ≡ ok id
unfolding stream_made stream_id initiator_of dir_of index_of
stream_parts id h =
    let t : id / 4 < 2 ^ 60 = omega arith in
    let e : id / 4 * 4 + id / 2 % 2 * 2 + id % 2 ≡ id = omega arith in
    rw (lt-ltb _ _ t) (ap ok e)

-- and they are the parts it was made of
module _ (i d n : ℕ) (hi : i < 2) (hd : d < 2) where
  pub stream_initiator : initiator_of (stream_id i d n) ≡ i
  unfolding initiator_of stream_id
  stream_initiator = omega arith

  pub stream_dir : dir_of (stream_id i d n) ≡ d
  unfolding dir_of stream_id
  stream_dir = omega arith

  pub stream_index : index_of (stream_id i d n) ≡ n
  unfolding index_of stream_id
  stream_index = omega arith
