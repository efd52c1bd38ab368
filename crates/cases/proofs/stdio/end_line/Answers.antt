use mathlib.Core.Path.{ap, ◌∙◌}
use Rattle.text.proofs.Puts.{one_piece}
use Rattle.cases.specs.Stdio.{kept}
use Rattle.cases.proofs.stdio.end_line.Goals as goal

-- A line feed is a text of one piece.
pub returns : goal.returns
returns c =
    let p = one_piece c.put_slice-p.ensures in
    record { says = c.spill.ensures ∙ ap (λ o. kept o.0) p; leaves = ap (λ o. o.1) p }
