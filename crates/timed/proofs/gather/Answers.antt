use Rattle.std.proofs.Common.{refl, sym, ◌∙◌}
use Rattle.coding.specs.Said.{answer_of}
use Rattle.timed.specs.Timed.{gathered}
use Rattle.timed.proofs.Laws.{none, stops, goes_on}
use Rattle.timed.proofs.gather.Goals as goal

pub loop-count-init : goal.loop-count-init
unfolding gathered
loop-count-init g c = λ f h. refl

pub returns-in-Err : goal.returns-in-Err
unfolding answer_of
returns-in-Err g c = λ f h.
    let x = c.index-items-count in
    let e = sym (rw c.in-Err.is at (h _ _ c.each.ensures)) in
    rw c.number.ensures (sym (stops f _ _ _ x.result c.loop-count-test.true _ (rw (← x.is) e)) ∙ c.loop-count.invariant f h)

pub loop-count-preserved : goal.loop-count-preserved
unfolding answer_of
loop-count-preserved g c = λ f h.
    let x = c.index-items-count in
    let e = sym (rw c.in-Ok.is at (h _ _ c.each.ensures)) in
    sym (goes_on f _ _ _ x.result c.loop-count-test.true _ (rw (← x.is) e)) ∙ c.loop-count.invariant f h

pub returns : goal.returns
returns g c = λ f h.
    let l = c.loop-count in
    sym (none f _ _ _ l.auto.count-end c.loop-count-test.false) ∙ l.invariant f h
