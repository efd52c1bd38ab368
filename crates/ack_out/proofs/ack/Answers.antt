use Rattle.std.proofs.Common.{arith}
use Rattle.ack.proofs.Tries.{exit_answer}
use Rattle.coding.specs.Said.{answer_of}
use Rattle.coding.proofs.Writes.{written_no, written_short, written_ok}
use Rattle.ack_out.proofs.Frames.{not_ranges, known, unknown}
use Rattle.ack_out.proofs.Puts.{ready, blocks_room, all_put}
use Rattle.ack_out.proofs.ack.Goals as goal

pub returns-in_default : goal.returns-in_default
unfolding answer_of
returns-in_default c = written_no _ (not_ranges _ _ _ c.in_default.ensures)

pub returns-in_err-len : goal.returns-in_err-len
returns-in_err-len c =
    rw (← c.in-Some.ensures, exit_answer _ _ c.from_residual.ensures) (written_no _ (unknown _ _ c.frame_len.ensures _ c.in_err-len.was))

pub returns-then-out-len : goal.returns-then-out-len
unfolding answer_of
returns-then-out-len c =
    let k = known _ _ c.frame_len.ensures _ c.in_ok-len.was in
    rw (← c.in-Some.ensures) (written_short _ k.is (omega (arith, k.long)))

pub put_blocks-counts-requires : goal.put_blocks-counts-requires
put_blocks-counts-requires c =
    let k = known _ _ c.frame_len.ensures _ c.in_ok-len.was in
    let g = ready _ _ _ k.bytes k.is in
    let p = rw c.head-head.ensures at c.put_vars-blocks.ensures in
    blocks_room _ _ _ _ g _ (omega (arith, k.long)) _ _ p

pub returns : goal.returns
unfolding answer_of
returns c =
    let k = known _ _ c.frame_len.ensures _ c.in_ok-len.was in
    let g = ready _ _ _ k.bytes k.is in
    let p = rw c.head-head.ensures at c.put_vars-blocks.ensures in
    rw (← c.in-Some.ensures)
    (written_ok _ k.is (omega (arith, k.long)) (all_put _ _ _ _ g _ (omega (arith, k.long)) _ _ p _ _ c.put_blocks-counts.ensures _ _ c.put_counts.ensures))
