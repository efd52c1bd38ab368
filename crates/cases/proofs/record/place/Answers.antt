use Rattle.std.proofs.lemmas.Result.{err_from_is_err_and}
use Rattle.cases.specs.Records.{nowhere, part_after, part_in}
use Rattle.cases.proofs.Laws.{after_more, after_cut, found_part}
use Prim.Native.Nat.{◌+◌, ◌-◌}
use mathlib.Core.Path.{◌≡◌, ◌∙◌, ap}
use native.Mathlib.Omega.{arith}
use Rattle.coding.specs.Words.{and_then}
use Rattle.cases.proofs.record.place.Goals as goal

pub returns-in_err-sized : goal.returns-in_err-sized
unfolding part_in and_then
returns-in_err-sized c =
    let l = c.loop in
    let p = err_from_is_err_and c.from_residual.result c.from_residual.ensures.1 in
    rw (p.1, l.invariant, after_cut (c.args.j - l.counter) l.r c.sized.new.r _ c.sized.ensures.finds _ (omega arith) c.in_err-sized.was)

pub loop-preserved : goal.loop-preserved
loop-preserved c =
    let l = c.loop in
    let e : c.args.j - l.counter - 1 ≡ c.args.j - (l.counter + 1) = omega arith in
    rw (← e) (l.invariant ∙ after_more (c.args.j - l.counter) l.r c.sized.new.r _ c.sized.ensures.finds c.sized.ensures.bytes _ (omega arith) c.in_ok-sized.was)

pub returns : goal.returns
unfolding part_in part_after
returns c =
    let l = c.loop in
    let e : c.args.j - l.counter ≡ 0 = omega arith in
    rw (l.invariant, e) (found_part _ _ ∙ ap (λ g. and_then g nowhere (λ p n. p)) c.sized-2.ensures.finds)
