use Rattle.std.proofs.Common.{◌≡◌, arith, refl, sym, ap, ◌∙◌}
use Rattle.number.specs.Cutting.{bytes_for}
use Rattle.number.specs.Said.{fitting}
use Rattle.number.proofs.Windows.{window_is, first_here, first_on, fitting_some}
use Rattle.number.proofs.width.Goals as goal

pub loop-k-init : goal.loop-k-init
unfolding bytes_for
loop-k-init c = refl

pub loop-k-preserved : goal.loop-k-preserved
loop-k-preserved c =
    let k = c.loop-k.k in
    let w = window_is k (omega arith) (omega arith) in
    sym (first_on k c.args.range (omega arith) (omega (arith, w, c.window.ensures))) ∙ c.loop-k.invariant

pub returns-then-range-window : goal.returns-then-range-window
returns-then-range-window c =
    let k = c.loop-k.k in
    let w = window_is k (omega arith) (omega arith) in
    let e = sym c.loop-k.invariant ∙ first_here k c.args.range (omega arith) (omega (arith, w, c.window.ensures)) in
    sym (ap fitting e ∙ fitting_some k (omega arith))

pub returns : goal.returns
returns c =
    let e : c.loop-k.k ≡ 5 = omega (arith, c.loop-k.auto.k-end (omega arith)) in
    ap fitting (rw e at c.loop-k.invariant)
