use Rattle.std.proofs.Common.{arith, true, false}
use borrow.Author.Tests.{eq-eqb, ne_eqb}
use Rattle.coding.specs.Said.{answer_of}
use Rattle.coding.proofs.Writes.{written_no}
use Rattle.frame_out.proofs.Vals.{meta_below, meta_past, meta_out_law}
use Rattle.frame_out.proofs.stream_meta.Goals as goal
use Rattle.frame_out.proofs.stream_meta.Goals.{then-end-start-via-then-end-start, then-end-start-via-else-end-start+then-end-ge-NUMBER_END}

pub returns-then-end-start : goal.returns-then-end-start
unfolding answer_of
returns-then-end-start c =
    elim c.then-end-start.branch [
      | then-end-start-via-then-end-start w ↦ written_no _ (meta_below _ _ _ _ _ w.if-end-start.true)
      | then-end-start-via-else-end-start+then-end-ge-NUMBER_END w ↦ written_no _ (meta_past _ _ _ _ _ w.if-end-start.false w.if-end-ge-NUMBER_END.true)
    ]

pub returns-in-0-true : goal.returns-in-0-true
returns-in-0-true c =
    let a = c.args.meta in
    rw (meta_out_law a.id.0 a.start a.end (omega arith) (omega arith) true a.fin _ true _ (eq-eqb a.start 0 c.in-0-true.is-0) c.in-0-true.is-1 c.stream_type-ty.ensures)
    c.frame_of.ensures

pub returns-in-0-false : goal.returns-in-0-false
returns-in-0-false c =
    let a = c.args.meta in
    rw (meta_out_law a.id.0 a.start a.end (omega arith) (omega arith) true a.fin _ false _ (eq-eqb a.start 0 c.in-0-false.is-0) c.in-0-false.is-1 c.stream_type-ty.ensures)
    c.frame_of-in-0-false.ensures

pub returns-in_default-true : goal.returns-in_default-true
returns-in_default-true c =
    let a = c.args.meta in
    rw (meta_out_law a.id.0 a.start a.end (omega arith) (omega arith) false a.fin _ true _ (ne_eqb a.start 0 c.in_default-true.is-0.1) c.in_default-true.is-1 c.stream_type-ty.ensures)
    c.frame_of-in_default-true.ensures

pub returns-in_default-false : goal.returns-in_default-false
returns-in_default-false c =
    let a = c.args.meta in
    rw (meta_out_law a.id.0 a.start a.end (omega arith) (omega arith) false a.fin _ false _ (ne_eqb a.start 0 c.in_default-false.is-0.1) c.in_default-false.is-1 c.stream_type-ty.ensures)
    c.frame_of-in_default-false.ensures
