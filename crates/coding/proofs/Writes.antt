-- How a writer's proof goes: the ways a put ends, what a run of puts keeps, and the ways a writer ends.
use Rattle.std.specs.Prelude.{if◌then◌else◌}
use mathlib.Core.Path.{◌≡◌, refl, ap, ◌∙◌}
use mathlib.Core.List.{List, [], ◌++◌, append-nil}
use mathlib.Core.Bool.{Bool, true, false}
use Prim.Native.Nat.{ℕ, ◌+◌, ◌≤◌, ◌<◌}
use native.Mathlib.Nat.{add-zero}
use native.Mathlib.Omega.{arith}
use lib.ListN.{length, length-append, take-append-drop}
use lib.Dec.{leb}
use borrow.Author.Tests.{le-leb, lt-leb}
use Rattle.coding.specs.Words.{Answer, no, ok}
use Rattle.coding.specs.Bytes.{splice}
use Rattle.coding.specs.Writing.{in_room, length_of, into_buffer, Written, Put}
use Rattle.coding.proofs.Laws.{length_splice, splice_splice}

-- a run of puts so far: the buffer `old` with bs from a place on is `new`, and r is the next place
pub record So (old : List ℕ) (at : ℕ) (bs : List ℕ) (r : ℕ) (new : List ℕ) : Type 0 where
  pub place : r ≡ at + length bs
  pub bytes : new ≡ splice old at bs

pub so_none : (old : List ℕ) (at : ℕ) → So old at [] at old
unfolding splice
so_none old at = record { place = omega arith; bytes = simp (add-zero, append-nil, take-append-drop) }

-- ---- a put fits, or not

module _ (bs old : List ℕ) (at : ℕ) where
  pub put_fits : {next : ℕ} {new : List ℕ} → at + length bs ≤ length old → So old at bs next new → Put bs old at next new
  put_fits h s = record { place = rw (le-leb _ _ h) s.place; bytes = rw (le-leb _ _ h) s.bytes }

  pub put_not : length old < at + length bs → Put bs old at at old
  put_not h = record { place = rw (lt-leb _ _ h); bytes = rw (lt-leb _ _ h) }

  pub put_so : {next : ℕ} {new : List ℕ} → at + length bs ≤ length old → Put bs old at next new → So old at bs next new
  put_so h p = record { place = rw (le-leb _ _ h) at p.place; bytes = rw (le-leb _ _ h) at p.bytes }

-- no bytes are put anywhere
pub put_none : (old : List ℕ) (at : ℕ) → Put [] old at at old
put_none old at = record { place = here (leb (at + 0) (length old)); bytes = same (leb (at + 0) (length old)) }
  where
    here : (t : Bool) → at ≡ (if t then at + 0 else at)
    here true = omega arith
    here false = refl

    same : (t : Bool) → old ≡ (if t then splice old at [] else old)
    same true = (so_none old at).bytes
    same false = refl

-- one put more
pub so_put : {old bs ys mid new : List ℕ} {at r next : ℕ} → So old at bs r mid → at + length bs + length ys ≤ length old
    → Put ys mid r next new → So old at (bs ++ ys) next new
so_put {old} {bs} {ys} {mid} {new} {at} {r} {next} s h p =
    let l : length mid ≡ length old = rw s.bytes (length_splice old bs at (omega arith)) in
    let q = put_so ys mid r (omega (arith, s.place)) p in
    let m : length (bs ++ ys) ≡ length bs + length ys = length-append bs ys in
    record {
      place = omega (arith, q.place, s.place);
      bytes = q.bytes ∙ rw (s.bytes, s.place) (splice_splice old bs ys at h);
    }

-- ---- a writer refuses, has too little room, or has written

module _ (old : List ℕ) {w : Answer (List ℕ)} where
  pub written_no : {k : ℕ} → w ≡ no k → Written w old (no k) old
  unfolding in_room length_of into_buffer
  written_no e = record { says = rw e; leaves = rw e }

  module _ {bs : List ℕ} (e : w ≡ ok bs) where
    pub written_short : length old < length bs → Written w old (no 15) old
    unfolding in_room length_of into_buffer
    written_short h = record { says = rw (e, lt-leb _ _ h); leaves = rw (e, lt-leb _ _ h) }

    pub written_ok : {r : ℕ} {new : List ℕ} → length bs ≤ length old → So old 0 bs r new → Written w old (ok r) new
    unfolding in_room length_of into_buffer
    written_ok {r} h s =
        let p : r ≡ length bs = omega (arith, s.place) in
        record { says = rw (e, le-leb _ _ h) (ap ok p); leaves = rw (e, le-leb _ _ h) s.bytes }
