use Rattle.std.proofs.Common.{ℕ, List, ◌≡◌, ◌++◌, take, drop, length, length-take, ap, sym, ◌∙◌, refl, arith}
use lib.Seq.{length-take-le}
use Rattle.protect.specs.Protection.{xor}
use Rattle.protect.proofs.Xor.{xor_on, xor_whole, xor_take}
use Rattle.protect.proofs.mask_number.Goals as goal

pub loop-i-init : goal.loop-i-init
unfolding xor
loop-i-init c = refl

pub loop-i-preserved : goal.loop-i-preserved
loop-i-preserved c =
    let l = c.loop-i in
    let a = c.args in
    let m : length (take a.n a.part.now) ≡ a.n = length-take-le a.n a.part.now c.requires.1 in
    xor_on a.mask (take a.n a.part.now) _ l.i l.invariant c.loop-i-test.true (omega arith)

pub returns : goal.returns
returns c =
    let l = c.loop-i in
    let a = c.args in
    let part : List ℕ = take a.n a.part.now in
    let e : l.i ≡ length part = omega arith in
    ap (λ (r : List ℕ). r ++ drop a.n a.part.now) (rw e at l.invariant ∙ xor_whole (drop 1 a.mask) part) ∙ sym (xor_take a.n (drop 1 a.mask) a.part.now)
