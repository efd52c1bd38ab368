use native.Mathlib.Omega.{arith}
use Prim.Native.Nat.{ℕ, ◌+◌, ◌-◌, ◌≤◌}
use mathlib.Core.Path.{◌≡◌, ◌∙◌}
use mathlib.Core.List.{List}
use lib.ListN.{length, take, drop, length-drop}
use lib.Seq.{length-take-le}
use Rattle.coding.proofs.Laws.{mid_splice}
use Rattle.shared.proofs.Laws.{copied_more, copied_length}
use Rattle.shared.proofs.cid.copy_on.Goals as goal

pub slice_bounds-copy_from_slice-end : goal.slice_bounds-copy_from_slice-end
slice_bounds-copy_from_slice-end c =
    let a = c.args in
    omega (arith, copied_length a.bytes.now a.all.now a.at c.requires.0 c.requires.1.1.1)

pub returns : goal.returns
returns c =
    let a = c.args in
    let more : List ℕ = take a.n (drop a.at a.bytes.now) in
    let k : a.at + a.n ≤ length a.bytes.now = omega arith in
    let n : a.at + a.n - a.at ≡ a.n = omega arith in
    let m : length more ≡ a.n = length-take-le a.n (drop a.at a.bytes.now) (simp length-drop (omega arith)) in
    (k, (omega (arith, c.requires), mid_splice _ more _ a.at _ (c.copy_from_slice.ensures.after ∙ rw n) (omega arith) ∙ copied_more a.bytes.now a.all.now a.at a.n c.requires.0 k c.requires.1.1.1))
