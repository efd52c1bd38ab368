use Rattle.std.proofs.Common.{◌≡◌, ◌<◌, rules, arith, length}
use borrow.Author.Tests.{lt-ltb, le-ltb, eq-eqb, ne_eqb}
use Rattle.coding.specs.Said.{answer_of}
use Rattle.coding.proofs.Writes.{written_no}
use Rattle.shared.proofs.Laws.{length_cid}
use Rattle.frame_out.specs.Frames.{new_cid_out}
use Rattle.frame_out.proofs.Vals.{cid_vals}
use Rattle.frame_out.proofs.new_connection_id.Goals as goal
use Rattle.frame_out.proofs.new_connection_id.Goals.{then-sequence-retire_prior_to-via-then-sequence-retire_prior_to, then-sequence-retire_prior_to-via-else-sequence-retire_prior_to+then-id-eq0, then-sequence-retire_prior_to-via-else-sequence-retire_prior_to+else-id-eq0+then-from-gt-MAX_CID_SIZE}

pub returns-then-sequence-retire_prior_to : goal.returns-then-sequence-retire_prior_to
unfolding answer_of new_cid_out
returns-then-sequence-retire_prior_to c =
    let a = c.args in
    elim c.then-sequence-retire_prior_to.branch [
      | then-sequence-retire_prior_to-via-then-sequence-retire_prior_to w ↦ written_no _ (rw (lt-ltb a.sequence a.retire_prior_to (omega arith)))
      | then-sequence-retire_prior_to-via-else-sequence-retire_prior_to+then-id-eq0 w ↦
          written_no _ (rw (le-ltb a.sequence a.retire_prior_to (omega arith), eq-eqb a.id.len 0 w.if-id-eq0.true))
      | then-sequence-retire_prior_to-via-else-sequence-retire_prior_to+else-id-eq0+then-from-gt-MAX_CID_SIZE w ↦
          let long : 20 < a.id.len = omega (arith, w.from.ensures) in
          written_no _ (rw (le-ltb a.sequence a.retire_prior_to (omega arith), ne_eqb a.id.len 0 w.if-id-eq0.false, lt-ltb 20 a.id.len long))
    ]

pub returns : goal.returns
returns c =
    let a = c.args in
    let all : length a.id.bytes ≡ 20 = search rules in
    rw (cid_vals a.sequence a.retire_prior_to a.id a.reset_token.now (omega arith) c.if-id-eq0.false (omega (arith, c.from.ensures)) (length_cid a.id (omega (arith, c.from.ensures))))
    c.frame_with_id.ensures
