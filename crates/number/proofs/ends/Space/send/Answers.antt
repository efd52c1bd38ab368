use Rattle.std.proofs.Common.{sym, ap, ◌∙◌}
use Rattle.std.proofs.lemmas.Result.{err_from_is_err_and}
use Rattle.coding.specs.Words.{no, ok}
use Rattle.coding.specs.Refusals.{number_of}
use Rattle.coding.specs.Said.{answer_of}
use Rattle.number.specs.Cutting.{cut_made}
use Rattle.number.specs.Ends.{send_with}
use Rattle.number.specs.Said.{sent_of}
use Rattle.number.proofs.Calls.{send_on}
use Rattle.number.proofs.ends.Space.send.Goals as goal

pub returns-in_err-cut : goal.returns-in_err-cut
unfolding answer_of send_with sent_of
returns-in_err-cut c =
    let p = err_from_is_err_and c.from_residual.result c.from_residual.ensures.1 in
    rw (p.1, p.2)
    (send_on _ (no (number_of c.in_err-cut.field-0.0)) (sym c.if-not-send_end.ensures) (c.in_err-cut.ensures ∙ ap (cut_made _) c.base.ensures))

pub returns : goal.returns
unfolding answer_of send_with sent_of
returns c = send_on _ (ok c.in_ok-cut.cut) (sym c.if-not-send_end.ensures) (c.in_ok-cut.ensures ∙ ap (cut_made _) c.base.ensures)
