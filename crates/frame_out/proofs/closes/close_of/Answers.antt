use Rattle.std.proofs.Common.{◌≤◌, ◌-◌, arith, length, take, length-take}
use Rattle.ack.proofs.Tries.{exit_answer}
use Rattle.coding.proofs.Writes.{written_no}
use Rattle.row_out.proofs.Laws.{size_held, vars_bound}
use Rattle.frame_out.proofs.Cuts.{few_not, sum_of, cut_kept, cut_not, cut_out_past, cut_out_not, cut_out_kept, set_last}
use Rattle.frame_out.proofs.closes.close_of.Goals as goal

pub returns-in_err-size : goal.returns-in_err-size
returns-in_err-size c =
    let few : length (take (length c.args.vals.now - 1) c.args.vals.now) ≤ 3 = simp length-take (omega arith) in
    let k = few_not _ _ _ few c.vars_len.ensures c.in_err-size.was in
    rw (exit_answer _ _ c.from_residual.ensures, k.1) (written_no _ (cut_out_past _ _ _ k.0))

pub kept-requires : goal.kept-requires
kept-requires c =
    let h = size_held _ _ _ c.vars_len.ensures _ c.in_ok-size.was in
    let few : length (take (length c.args.vals.now - 1) c.args.vals.now) ≤ 3 = simp length-take (omega arith) in
    omega (arith, h.long, vars_bound _ h.small)

pub returns-in_err-len : goal.returns-in_err-len
returns-in_err-len c =
    let h = size_held _ _ _ c.vars_len.ensures _ c.in_ok-size.was in
    let k = cut_not _ _ _ _ c.kept.ensures _ c.in_err-len.was in
    rw (exit_answer _ _ c.from_residual-in_err-len.ensures, k.1) (written_no _ (cut_out_not _ _ _ (sum_of h) k.0))

pub slice_bounds-frame_of-end : goal.slice_bounds-frame_of-end
slice_bounds-frame_of-end c =
    let k = cut_kept _ _ _ _ c.kept.ensures _ c.in_ok-len.was in
    simp length-take (omega (arith, k.1))

pub returns : goal.returns
returns c =
    let h = size_held _ _ _ c.vars_len.ensures _ c.in_ok-size.was in
    let k = cut_kept _ _ _ _ c.kept.ensures _ c.in_ok-len.was in
    let v = c.args.vals.now in
    rw (cut_out_kept _ _ _ (sum_of h) k, ← set_last v (length v - 1) _ (omega arith)) c.frame_of.ensures
