use Rattle.std.proofs.lemmas.Result.{err_from_is_err_and}
use Rattle.shared.specs.Cid.{cid_of}
use Rattle.packet_out.proofs.BeforePayload.{with_wide, with_not, with_field}
use Rattle.packet_out.proofs.Laws.{refuses}
use Rattle.packet_out.proofs.encode_for.Goals as goal

pub returns-in_err-lent : goal.returns-in_err-lent
unfolding cid_of
returns-in_err-lent c =
    let e = c.in_err-lent.ensures in
    refuses _ _ _ (err_from_is_err_and _ c.from_residual.ensures.1) e.0 (with_wide _ _ _ _ _ e.1)

pub returns-in_err-field : goal.returns-in_err-field
returns-in_err-field c =
    let e = c.in_err-field.ensures in
    refuses _ _ _ (err_from_is_err_and _ c.from_residual-in_err-field.ensures.1) e.0 (with_not _ _ _ _ _ e.1)

pub returns : goal.returns
returns c =
    let e = c.in_ok-lent.ensures in
    let f = c.in_ok-field.ensures in
    rw (← with_field _ _ _ _ _ f.0) (rw (e.0, e.1, e.2, f.1) at c.encode_with.ensures)
