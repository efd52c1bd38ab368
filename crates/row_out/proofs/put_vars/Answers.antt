use Rattle.std.proofs.Common.{[], append-nil, arith}
use Rattle.coding.proofs.Writes.{put_none, put_not}
use Rattle.row_out.specs.Limits.{stored}
use Rattle.row_out.proofs.Laws.{out_ok, size_held, size_not}
use Rattle.row_out.proofs.put_vars.Goals as goal

pub returns-in_default : goal.returns-in_default
unfolding stored
returns-in_default c =
    rw (size_not _ _ _ c.vars_len.ensures _ [] c.in_default.is (omega arith)) (put_none _ _)

pub returns-then-buf-at : goal.returns-then-buf-at
unfolding stored
returns-then-buf-at c =
    let h = size_held _ _ _ c.vars_len.ensures _ c.in-Ok.is in
    rw (out_ok _ _ _ h, append-nil) (put_not _ _ _ (omega arith))

pub put_each-requires : goal.put_each-requires
put_each-requires c =
    let h = size_held _ _ _ c.vars_len.ensures _ c.in-Ok.is in
    (h.small, omega arith)

pub returns : goal.returns
unfolding stored
returns c =
    let h = size_held _ _ _ c.vars_len.ensures _ c.in-Ok.is in
    rw (out_ok _ _ _ h, append-nil) c.put_each.ensures
