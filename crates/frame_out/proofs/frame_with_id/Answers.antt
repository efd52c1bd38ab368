use Rattle.std.proofs.Common.{◌≡◌, ◌++◌, rules, arith, length}
use Rattle.ack.proofs.Tries.{exit_answer}
use Rattle.coding.specs.Said.{answer_of}
use Rattle.coding.proofs.Writes.{written_no, written_short, written_ok}
use Rattle.shared.specs.Cid.{long_bytes}
use Rattle.row_out.proofs.Laws.{length_out, out_ok, size_held, size_not}
use Rattle.frame_out.proofs.Vals.{id_held, id_puts}
use Rattle.frame_out.proofs.frame_with_id.Goals as goal

pub returns-in_err-n : goal.returns-in_err-n
returns-in_err-n c =
    rw (exit_answer _ _ c.from_residual.ensures) (written_no _ (size_not _ _ _ c.vars_len.ensures _ _ c.in_err-n.was (omega arith)))

pub overflow_add-n : goal.overflow_add-n
overflow_add-n c =
    let h = size_held _ _ _ c.vars_len.ensures _ c.in_ok-n.was in
    omega (arith, h.short)

pub returns-then-out-n : goal.returns-then-out-n
unfolding answer_of
returns-then-out-n c =
    let a = c.args in
    let all : length a.id.bytes ≡ 20 = search rules in
    let h = size_held _ _ _ c.vars_len.ensures _ c.in_ok-n.was in
    let k = id_held _ a.id a.reset_token.now _ c.requires.1.0 all c.requires.0 c.requires.1.1 h in
    written_short _ (out_ok _ _ _ k) (omega (arith, k.long, length_out a.vals.now (long_bytes a.id ++ a.reset_token.now)))

pub returns : goal.returns
unfolding answer_of
returns c =
    let a = c.args in
    let all : length a.id.bytes ≡ 20 = search (rules, c.well_formed.1.0) in
    let h = size_held _ _ _ c.vars_len.ensures _ c.in_ok-n.was in
    let k = id_held _ a.id a.reset_token.now _ c.requires.1.0 all c.requires.0 c.requires.1.1 h in
    let p = id_puts _ a.id a.reset_token.now _ c.requires.1.0 all c.requires.0 c.requires.1.1 h (omega (arith, c.from.ensures)) c.put_vars-start.ensures c.put_long-next.ensures c.put_slice.ensures in
    written_ok _ (out_ok _ _ _ k) (omega (arith, k.long, length_out a.vals.now (long_bytes a.id ++ a.reset_token.now))) p
