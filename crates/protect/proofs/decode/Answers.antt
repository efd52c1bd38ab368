use Rattle.std.proofs.Common.{ℕ, ◌≡◌, ◌+◌, ◌^◌, ◌≤◌, ◌<◌, take, drop, refl, ap, ◌∙◌, rules, arith}
use native.Mathlib.Nat.{sub-zero}
use lib.ListN.{get_or}
use Rattle.coding.specs.Bytes.{be}
use Rattle.coding.proofs.Laws.{pow256}
use Rattle.coding.proofs.Steps.{be_more, room, room_fits, part_len, part_at}
use Rattle.number.specs.Cutting.{cut}
use Rattle.protect.proofs.decode.Goals as goal

-- at most four bytes fit into a word
fits : (n : ℕ) → n ≤ 4 → 256 ^ n ≤ 2 ^ 32
fits n h = pow256 n 4 h

pub loop-b-init : goal.loop-b-init
unfolding be
loop-b-init c = (search rules, (refl, rw sub-zero (omega arith)))

pub overflow_mul-value : goal.overflow_mul-value
overflow_mul-value c =
    let l = c.loop-b in
    let a = c.args in
    let k : l.b-index < a.len = rw (part_len a.packet.now a.number_offset a.len c.requires.1) at c.loop-b-test.true in
    omega (arith, fits _ c.requires.0, room_fits l.value 0 _ l.b-index _ (omega arith) k l.invariant.1.1)

pub overflow_add-value : goal.overflow_add-value
overflow_add-value c =
    let l = c.loop-b in
    let a = c.args in
    let k : l.b-index < a.len = rw (part_len a.packet.now a.number_offset a.len c.requires.1) at c.loop-b-test.true in
    rw (part_at a.packet.now a.number_offset a.len l.b-index k) (
    omega (arith, fits _ c.requires.0, room_fits l.value (get_or a.packet.now (a.number_offset + l.b-index) 0) _ l.b-index _ (omega (arith, c.type_inv.packet (a.number_offset + l.b-index))) k l.invariant.1.1)
    )

pub loop-b-preserved : goal.loop-b-preserved
loop-b-preserved c =
    let l = c.loop-b in
    let a = c.args in
    let k : l.b-index < a.len = rw (part_len a.packet.now a.number_offset a.len c.requires.1) at c.loop-b-test.true in
    rw (part_at a.packet.now a.number_offset a.len l.b-index k) (
      omega arith,
      (
        rw (be_more 0 a.packet.now a.number_offset l.b-index (omega arith)) (cc),
        room l.value (get_or a.packet.now (a.number_offset + l.b-index) 0) _ l.b-index _ (omega (arith, c.type_inv.packet (a.number_offset + l.b-index))) k l.invariant.1.1,
      ),
    )

pub returns : goal.returns
returns c =
    let a = c.args in
    let l = c.loop-b in
    let e : l.b-index ≡ a.len = omega (arith, part_len a.packet.now a.number_offset a.len c.requires.1) in
    ap (cut a.len) (l.invariant.1.0 ∙ ap (λ (k : ℕ). be 0 (take k (drop a.number_offset a.packet.now))) e)
