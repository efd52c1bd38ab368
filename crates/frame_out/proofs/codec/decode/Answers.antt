use Rattle.std.proofs.lemmas.Result.{err_from_is_err_and}
use Rattle.coding.specs.Said.{found_by}
use Rattle.frame_out.proofs.codec.decode.Goals as goal

pub returns-in_err-x : goal.returns-in_err-x
unfolding found_by
returns-in_err-x g c =
    let p = err_from_is_err_and c.from_residual.result c.from_residual.ensures.1 in
    let h = rw c.in_err-x.was at c.get_var.ensures.reads in
    rw (p.1) (record { finds = h.finds; bytes = h.bytes; stays = h.stays })

pub returns : goal.returns
unfolding found_by
returns g c =
    let h = rw c.in_ok-x.was at c.get_var.ensures.reads in
    record { finds = rw c.of.ensures h.finds; bytes = h.bytes; stays = h.stays }
