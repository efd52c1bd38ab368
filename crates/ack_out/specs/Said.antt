-- What the code's arguments say, in document 01's numbers and values.
use Rattle.std.specs.Prelude.{ℕ}
use Rattle.std.specs.Prelude as option
use Rattle.std.proofs.Math.Option.{Option, none, some}
use Rattle.ecn.specs.declared.EcnCounts.{EcnCounts}

abbrev pub ecn_given : option.Option EcnCounts → Option (ℕ × (ℕ × ℕ))
ecn_given option.None = none
ecn_given (option.Some x) = some (x.ect0, (x.ect1, x.ce))
