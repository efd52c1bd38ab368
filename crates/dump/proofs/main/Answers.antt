use Rattle.std.specs.Prelude.{if◌then◌else◌}
use mathlib.Core.Path.{◌≡◌, refl}
use mathlib.Core.List.{List}
use mathlib.Core.Bool.{Bool, true, false}
use Prim.Native.Nat.{ℕ, ◌≤◌}
use native.Mathlib.Omega.{arith}
use lib.Dec.{leb}
use lib.ListN.{length, length-take}
use borrow.Author.Tests.{leb-true}
use Rattle.coding.specs.Words.{no, ok}
use Rattle.coding.specs.Said.{answer_of}
use Rattle.coding.specs.Writing.{in_room, length_of}
use Rattle.dump.proofs.main.Goals as goal

-- what was written fits
wrote_fits : (room n : ℕ) (bs : List ℕ) → ok n ≡ length_of (in_room room (ok bs)) → n ≤ room
unfolding in_room length_of
wrote_fits room n bs = go (leb (length bs) room) refl
  where
    go : (b : Bool) → leb (length bs) room ≡ b → ok n ≡ length_of (if b then ok bs else no 15) → n ≤ room
    go true e h = let l = leb-true _ _ e in let z : n ≡ length bs = cc in omega arith
    go false e h = let z : ◌≡◌ {A = ℕ} 0 1 = cc in absurd (omega arith)

pub slice_bounds-text-end : goal.slice_bounds-text-end
unfolding answer_of
slice_bounds-text-end c =
    let l = wrote_fits _ _ _ c.in-Ok.ensures.says in
    omega arith

pub slice_bounds-write_all-end : goal.slice_bounds-write_all-end
unfolding answer_of
slice_bounds-write_all-end c =
    let l = wrote_fits _ _ _ c.in-Ok.ensures.says in
    simp length-take (omega arith)
