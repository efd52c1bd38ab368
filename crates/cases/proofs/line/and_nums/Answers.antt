use Rattle.cases.specs.Lines.{and_nums}
use Rattle.text.specs.Puts.{puts}
use Rattle.cases.proofs.Laws.{nums_more}
use Prim.Native.Nat.{◌+◌}
use mathlib.Core.Path.{◌≡◌, refl, sym, ap, ◌∙◌}
use mathlib.Core.List.{[]}
use lib.ListN.{length, drop}
use lib.Seq.{drop-length}
use native.Mathlib.Omega.{arith}
use Rattle.cases.proofs.line.and_nums.Goals as goal

pub loop-n-init : goal.loop-n-init
loop-n-init c = refl

pub loop-n-preserved : goal.loop-n-preserved
loop-n-preserved c =
    let l = c.loop-n in
    let a = c.args in
    l.invariant ∙ nums_more a.ns.now l.n-index _ (omega arith) ∙ ap (puts (and_nums (drop (l.n-index + 1) a.ns.now))) (sym c.and_num-p.ensures)

pub returns : goal.returns
unfolding and_nums puts
returns c =
    let l = c.loop-n in
    let a = c.args in
    let e : l.n-index ≡ length a.ns.now = omega arith in
    let d : drop l.n-index a.ns.now ≡ [] = rw e (drop-length a.ns.now) in
    sym (rw d at l.invariant)
