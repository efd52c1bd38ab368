use Rattle.std.proofs.Common.{[], arith}
use Rattle.ack.proofs.Tries.{exit_answer}
use Rattle.coding.specs.Said.{answer_of}
use Rattle.coding.specs.Writing.{length_of}
use Rattle.row_out.proofs.Laws.{size_held, size_not}
use Rattle.ack_out.proofs.Frames.{many_no, head_no, counts_no, long_no, all_ok, length_all}
use Rattle.ack_out.proofs.Ranges.frame_len.Goals as goal

pub returns-then-self-gt-MAX_DATAGRAM : goal.returns-then-self-gt-MAX_DATAGRAM
unfolding answer_of length_of
returns-then-self-gt-MAX_DATAGRAM c = rw (many_no _ _ _ c.args.self.keeps c.if-self-gt-MAX_DATAGRAM.true)

pub returns-in_err-first : goal.returns-in_err-first
unfolding length_of
returns-in_err-first c =
    let e = rw c.head-head.ensures at c.vars_len.ensures in
    rw (exit_answer _ _ c.from_residual.ensures, head_no _ _ _ c.args.self.keeps c.if-self-gt-MAX_DATAGRAM.false (size_not _ _ _ e _ [] c.in_err-first.was (omega arith)))

pub returns-in_err-last : goal.returns-in_err-last
unfolding length_of
returns-in_err-last c =
    rw (exit_answer _ _ c.from_residual-in_err-last.ensures, counts_no _ _ _ c.args.self.keeps c.if-self-gt-MAX_DATAGRAM.false (size_not _ _ _ c.counts_len.ensures _ [] c.in_err-last.was (omega arith)))

pub overflow_add-all : goal.overflow_add-all
overflow_add-all c =
    let x = size_held _ _ _ (rw c.head-head.ensures at c.vars_len.ensures) _ c.in_ok-first.was in
    omega (arith, x.short, c.blocks_len.ensures.1)

pub overflow_add-all-2 : goal.overflow_add-all-2
overflow_add-all-2 c =
    let x = size_held _ _ _ (rw c.head-head.ensures at c.vars_len.ensures) _ c.in_ok-first.was in
    let y = size_held _ _ _ c.counts_len.ensures _ c.in_ok-last.was in
    omega (arith, x.short, y.short, c.blocks_len.ensures.1)

pub returns-then-all-gt-MAX_DATAGRAM : goal.returns-then-all-gt-MAX_DATAGRAM
unfolding answer_of length_of
returns-then-all-gt-MAX_DATAGRAM c =
    let x = size_held _ _ _ (rw c.head-head.ensures at c.vars_len.ensures) _ c.in_ok-first.was in
    let y = size_held _ _ _ c.counts_len.ensures _ c.in_ok-last.was in
    let b = c.blocks_len.ensures.0 in
    rw (long_no _ _ _ c.args.self.keeps _ _ x y (rw b at c.if-all-gt-MAX_DATAGRAM.true))

pub returns : goal.returns
unfolding answer_of length_of
returns c =
    let x = size_held _ _ _ (rw c.head-head.ensures at c.vars_len.ensures) _ c.in_ok-first.was in
    let y = size_held _ _ _ c.counts_len.ensures _ c.in_ok-last.was in
    let b = c.blocks_len.ensures.0 in
    rw (all_ok _ _ _ c.args.self.keeps _ _ x y (rw b at c.if-all-gt-MAX_DATAGRAM.false), length_all _ _ _ c.args.self.keeps _ _ x y, b)
