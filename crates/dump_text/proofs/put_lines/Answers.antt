use native.Mathlib.Omega.{arith}
use Rattle.dump_text.proofs.Bounds.{text_fits}
use Rattle.dump_text.proofs.Loops.{lines_start, lines_room, lines_len, goes_on, left_less}
use Rattle.dump_text.proofs.put_lines.Goals as goal

pub loop-next-init : goal.loop-next-init
loop-next-init c = lines_start _ _ _

pub put_step-after-requires : goal.put_step-after-requires
put_step-after-requires c = lines_room (omega arith) c.args.anew (rw c.in-Some.is at c.loop-next.invariant) c.requires

pub overflow_sub-n : goal.overflow_sub-n
overflow_sub-n c = (lines_len (omega arith) c.put_step-after.ensures.line c.args.anew (rw c.in-Some.is at c.loop-next.invariant) c.requires).0

pub overflow_add-n : goal.overflow_add-n
overflow_add-n c =
    let l = lines_len (omega arith) c.put_step-after.ensures.line c.args.anew (rw c.in-Some.is at c.loop-next.invariant) c.requires in
    omega (arith, (text_fits c.args.s.now).1)

pub loop-next-smaller : goal.loop-next-smaller
loop-next-smaller c = rw c.in-Some.is (left_less _ _ _ c.put_step-after.ensures.next)

pub loop-next-preserved : goal.loop-next-preserved
loop-next-preserved c =
    let t = c.put_step-after in
    rw c.place_after-p.ensures
    (goes_on (omega arith) t.ensures.line c.args.anew (rw c.in-Some.is at c.loop-next.invariant) c.requires _ t.ensures.next)
