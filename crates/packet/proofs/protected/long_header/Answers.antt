use mathlib.Core.Path.{◌≡◌, refl, sym}
use mathlib.Core.Bool.{false}
use lib.Dec.{eqb}
use borrow.Author.Tests.{eq-eqb, ne_eqb}
use Rattle.coding.specs.Words.{and_then}
use Rattle.coding.specs.Said.{found_by}
use Rattle.packet.specs.Header.{long_at, body_at, headed}
use Rattle.packet.specs.Said.{decoded_of, outcome_of, tail_of}
use Rattle.packet.proofs.Cases.{low_seven, unlisted_is, listed_is}
use Rattle.packet.proofs.protected.long_header.Goals as goal
use Rattle.packet.proofs.protected.long_header.Goals.{then-version-eq0, else-version-eq0+in-Ok-long_tail}

pub returns-then-is_unlisted : goal.returns-then-is_unlisted
unfolding long_at body_at and_then found_by outcome_of
returns-then-is_unlisted c =
    let u = unlisted_is c.args.versions.now c.in_ok-version.version (sym c.if-is_unlisted.ensures) in
    rw (c.unsupported.ensures, ← c.in_ok-version.ensures.finds, ← c.in_ok-version.ensures.bytes, ← c.in-Ok.ensures.finds, ← c.in-Ok.ensures.bytes, ← c.in-Ok-long_place.ensures.finds, ← c.in-Ok-long_place.ensures.bytes, u.0, u.1) refl

pub returns-in-Err : goal.returns-in-Err
unfolding long_at body_at and_then found_by outcome_of tail_of
returns-in-Err c =
    let v = c.in_ok-version.version in
    let z : eqb v 0 ≡ false = ne_eqb _ _ c.if-version-eq0.false in
    rw (← c.in_ok-version.ensures.finds, ← c.in_ok-version.ensures.bytes, ← c.in-Ok.ensures.finds, ← c.in-Ok.ensures.bytes, ← c.in-Ok-long_place.ensures.finds, ← c.in-Ok-long_place.ensures.bytes, z)
    (rw (listed_is c.args.versions.now v (sym c.if-is_unlisted.ensures) z, ← c.from_byte.ensures) (c.in-Err.ensures _))

pub returns : goal.returns
unfolding long_at body_at headed and_then found_by outcome_of decoded_of tail_of
returns c =
    let v = c.in_ok-version.version in
    rw (c.at.ensures, c.at-2.ensures, ← c.in_ok-version.ensures.finds, ← c.in_ok-version.ensures.bytes, ← c.in-Ok.ensures.finds, ← c.in-Ok.ensures.bytes, ← c.in-Ok-long_place.ensures.finds, ← c.in-Ok-long_place.ensures.bytes)
    (elim c.if-version-eq0.branch [
      | then-version-eq0 w ↦ rw (w.header-is, w.r-is, eq-eqb _ _ w.if-version-eq0.true, low_seven)
      | else-version-eq0+in-Ok-long_tail w ↦
          let z : eqb v 0 ≡ false = ne_eqb _ _ w.if-version-eq0.false in
          rw (w.header-is, z, listed_is c.args.versions.now v (sym c.if-is_unlisted.ensures) z, ← w.from_byte.ensures) (rw w.r-is (w.in-Ok-long_tail.ensures _))
    ])
