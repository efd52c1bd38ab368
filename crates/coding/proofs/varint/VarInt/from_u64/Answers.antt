use Rattle.coding.proofs.Rules.{choices}
use Rattle.coding.specs.Varint.{var_made, in62}
use Rattle.coding.specs.Said.{made_of}
use Rattle.coding.proofs.varint.VarInt.from_u64.Goals as goal

pub returns-then-x-lt-NUMBER_END : goal.returns-then-x-lt-NUMBER_END
unfolding made_of var_made in62
returns-then-x-lt-NUMBER_END c = search choices

pub returns-else-x-lt-NUMBER_END : goal.returns-else-x-lt-NUMBER_END
unfolding made_of var_made in62
returns-else-x-lt-NUMBER_END c = search choices
