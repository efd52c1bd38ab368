use mathlib.Core.Path.{◌≡◌, sym, ◌∙◌}
use lib.ListN.{length}
use Rattle.std.proofs.lemmas.List.{set-get_or}
use native.Mathlib.Omega.{arith}
use Rattle.cases.proofs.Laws.{words_more, words_cut, words_none, words_start, counts}
use Rattle.cases.proofs.record.words.Goals as goal

pub loop-n-init : goal.loop-n-init
loop-n-init c = words_start _ _ _

pub returns-in_default : goal.returns-in_default
returns-in_default c =
    let l = c.loop-n in
    let cut = words_cut (length c.args.list.now) l.n l.list _ _ _ c.get.ensures _ (omega arith) c.in_default.is in
    rw set-get_or (record { says = sym (l.invariant ∙ cut); within = counts l.n l.list (omega arith) })

pub loop-n-preserved : goal.loop-n-preserved
loop-n-preserved c =
    let l = c.loop-n in
    l.invariant ∙ words_more (length c.args.list.now) l.n l.list _ _ _ c.get.ensures _ (omega arith) c.in-Ok.is

pub returns : goal.returns
returns c =
    let l = c.loop-n in
    let e : length l.list ≡ l.n = omega arith in
    rw e (record { says = sym (l.invariant ∙ words_none _ _ _ _ (omega arith)); within = counts l.n l.list (omega arith) })
