use Rattle.std.proofs.Common.{◌≡◌, ap, suc, [], append-nil, add-one, arith, take}
use Rattle.ack.proofs.Tries.{exit_answer}
use lib.Seq.{take_all}
use Rattle.coding.specs.Words.{no, ok}
use Rattle.coding.specs.Said.{answer_of}
use Rattle.coding.specs.Writing.{length_of}
use Rattle.coding.proofs.Laws.{sized_bytes, sized_not, size_le}
use Rattle.row_out.proofs.Laws.{sized_14, below_more, below_not, length_more, vars_part, Held, out_ok, out_past, out_long}
use Rattle.row_out.proofs.vars_len.Goals as goal

pub returns-in_err-n : goal.returns-in_err-n
unfolding length_of
returns-in_err-n c =
    let v = c.args.vals.now in
    let h = sized_not _ _ _ c.size.ensures c.in_err-n.was in
    rw (exit_answer _ _ c.from_residual.ensures, out_past v [] (below_not v c.loop-x.x-index (omega arith) h)) (ap no (sized_14 _ _ _ c.size.ensures c.in_err-n.was))

pub overflow_add-n : goal.overflow_add-n
overflow_add-n c =
    let h = sized_bytes _ _ _ c.size.ensures c.in_ok-n.was in
    omega (arith, h.1, size_le _ h.0)

pub returns-then-n-gt-MAX_DATAGRAM : goal.returns-then-n-gt-MAX_DATAGRAM
unfolding answer_of length_of
returns-then-n-gt-MAX_DATAGRAM c =
    let v = c.args.vals.now in
    let i = c.loop-x.x-index in
    let h = sized_bytes _ _ _ c.size.ensures c.in_ok-n.was in
    let m = length_more v i (omega arith) in
    rw (out_long v [] (omega (arith, h.1, vars_part v (suc i))))

pub loop-x-preserved : goal.loop-x-preserved
loop-x-preserved c =
    let v = c.args.vals.now in
    let i = c.loop-x.x-index in
    let h = sized_bytes _ _ _ c.size.ensures c.in_ok-n.was in
    let m = length_more v i (omega arith) in
    (omega arith, rw add-one (below_more v i (omega arith) c.loop-x.invariant.1 h.0), rw add-one (omega (arith, h.1, c.loop-x.invariant.2)))

pub returns : goal.returns
unfolding answer_of length_of
returns c =
    let l = c.loop-x in
    let v = c.args.vals.now in
    let e : take l.x-index v ≡ v = take_all l.x-index v (omega arith) in
    let m = rw e at l.invariant.2 in
    let k : Held v [] l.n = record { small = rw e at l.invariant.1; short = l.invariant.0; long = omega (arith, m) } in
    rw (out_ok v [] l.n k, append-nil) (ap ok m)
