-- As many zeros as the array has places.
use Rattle.std.proofs.Common.{ℕ, refl, sym}
use Rattle.std.proofs.lemmas.List.{length-replicate}
use Rattle.cases.proofs.stdio.lines.Goals as goal

pub returns : goal.returns
returns c = record { is = refl; counts = sym (length-replicate {A = ℕ} 400000 0) }
