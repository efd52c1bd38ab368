use Rattle.std.proofs.Common.{sym, refl, ap, ◌∙◌, arith, ℕ, List, Bor}
use Rattle.coding.specs.Said.{found_by}
use Rattle.coding.proofs.Laws.{var_inside}
use Rattle.timed.proofs.Laws.{start, vars_end, vars_cut, vars_on}
use Rattle.timed.proofs.guobbarel_timed_read_vars.Goals as goal

pub loop-r-init : goal.loop-r-init
loop-r-init c = (start _, (omega arith, (omega arith, refl)))

pub returns-in_default : goal.returns-in_default
unfolding found_by
returns-in_default c =
    let i = c.loop-r.invariant in
    sym (vars_cut _ _ _ _ i.1.0 c.loop-r-test.true (sym (rw (c.in_default.is, i.1.1.1) at c.get_var.ensures.reads.finds))) ∙ i.0

pub overflow_add-count : goal.overflow_add-count
overflow_add-count c = omega arith

pub loop-r-smaller : goal.loop-r-smaller
unfolding found_by
loop-r-smaller c = omega (arith, var_inside _ _ _ _ (sym (rw (c.in-Ok.is, c.loop-r.invariant.1.1.1) at c.get_var.ensures.reads.finds)))

pub loop-r-preserved : goal.loop-r-preserved
unfolding found_by
loop-r-preserved c =
    let i = c.loop-r.invariant in
    let e = sym (rw (c.in-Ok.is, i.1.1.1) at c.get_var.ensures.reads.finds) in
    let v = var_inside _ _ _ _ e in
    (sym (vars_on _ _ _ _ i.1.0 c.loop-r-test.true _ _ e) ∙ i.0, (omega arith, (v.1, ap (λ (b : Bor (List ℕ)). b.now) c.get_var.ensures.reads.bytes ∙ i.1.1.1)))

pub returns : goal.returns
returns c = sym (vars_end _ _ _ _ _ c.loop-r-test.false) ∙ c.loop-r.invariant.0
