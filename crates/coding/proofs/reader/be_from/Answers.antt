use borrow.Author.Rules.{rules}
use native.Mathlib.Nat.{sub_self, sub-zero, le_refl}
use native.Mathlib.Omega.{arith}
use mathlib.Core.Path.{◌≡◌, refl, ap, ◌∙◌}
use Prim.Native.Nat.{ℕ, ◌+◌, ◌-◌, ◌*◌, ◌^◌, ◌≤◌, ◌<◌}
use lib.ListN.{take, drop, get_or}
use Rattle.coding.specs.Bytes.{be}
use Rattle.coding.proofs.Steps.{be_more, room, room_fits, part_len, part_at}
use Rattle.coding.proofs.reader.be_from.Goals as goal

pub loop-b-init : goal.loop-b-init
unfolding be
loop-b-init c = (search rules, (refl, rw sub-zero (le_refl _)))

pub overflow_mul-v : goal.overflow_mul-v
overflow_mul-v c =
    let l = c.loop-b in
    let k : l.b-index < c.args.n = rw (part_len c.args.s.now c.args.at c.args.n c.requires.0) at c.loop-b-test.true in
    omega (arith, c.requires.1, room_fits l.v 0 _ l.b-index _ (omega arith) k l.invariant.1.1)

pub overflow_add-v : goal.overflow_add-v
overflow_add-v c =
    let l = c.loop-b in
    let a = c.args in
    let k : l.b-index < a.n = rw (part_len a.s.now a.at a.n c.requires.0) at c.loop-b-test.true in
    rw (part_at a.s.now a.at a.n l.b-index k) (
    omega (arith, c.requires.1, room_fits l.v (get_or a.s.now (a.at + l.b-index) 0) _ l.b-index _ (omega (arith, c.type_inv.s (a.at + l.b-index))) k l.invariant.1.1)
    )

pub loop-b-preserved : goal.loop-b-preserved
loop-b-preserved c =
    let l = c.loop-b in
    let a = c.args in
    let k : l.b-index < a.n = rw (part_len a.s.now a.at a.n c.requires.0) at c.loop-b-test.true in
    rw (part_at a.s.now a.at a.n l.b-index k) (
      omega arith,
      (
        rw (be_more a.first a.s.now a.at l.b-index (omega arith)) (cc),
        room l.v (get_or a.s.now (a.at + l.b-index) 0) _ l.b-index _ (omega (arith, c.type_inv.s (a.at + l.b-index))) k l.invariant.1.1,
      ),
    )

pub returns : goal.returns
returns c =
    let a = c.args in
    let l = c.loop-b in
    let e : l.b-index ≡ a.n = omega (arith, part_len a.s.now a.at a.n c.requires.0) in
    let m : (l.v + 1) * 256 ^ (a.n - a.n) ≤ (a.first + 1) * 256 ^ a.n = rw e at l.invariant.1.1 in
    (l.invariant.1.0 ∙ ap (λ (k : ℕ). be a.first (take k (drop a.at a.s.now))) e, omega (arith, rw sub_self at m))
