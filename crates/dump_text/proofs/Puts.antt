-- One put after another.
use mathlib.Core.Path.{◌≡◌}
use mathlib.Core.List.{List, ◌++◌}
use Prim.Native.Nat.{ℕ, ◌+◌, ◌≤◌}
use native.Mathlib.Omega.{arith}
use lib.ListN.{length, length-append}
use Rattle.coding.specs.Writing.{Put}
use Rattle.coding.proofs.Laws.{length_splice}
use Rattle.coding.proofs.Writes.{So, put_so, put_fits, so_put}

-- room for both is room for the first
pub shorter : (xs ys : List ℕ) (at n : ℕ) → at + length (xs ++ ys) ≤ n → at + length xs ≤ n
shorter xs ys at n h = omega (arith, simp length-append at h)

module _ (xs ys : List ℕ) {old mid : List ℕ} {at a : ℕ} (room : at + length (xs ++ ys) ≤ length old) (p : Put xs old at a mid) where
  -- and the second still has it
  pub room_after : a + length ys ≤ length mid
  room_after =
      let l : length (xs ++ ys) ≡ length xs + length ys = length-append xs ys in
      let s : So old at xs a mid = put_so xs old at (omega arith) p in
      let m : length mid ≡ length old = rw s.bytes (length_splice old xs at (omega arith)) in
      omega (arith, s.place)

  pub two : {new : List ℕ} {r : ℕ} → Put ys mid a r new → Put (xs ++ ys) old at r new
  two q =
      let l : length (xs ++ ys) ≡ length xs + length ys = length-append xs ys in
      put_fits (xs ++ ys) old at room (so_put (put_so xs old at (omega arith) p) (omega arith) q)
