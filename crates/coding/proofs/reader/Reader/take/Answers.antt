use Rattle.coding.proofs.Laws.{take_none, take_some, reads_on, reads_cut}
use native.Mathlib.Omega.{arith}
use mathlib.Core.Path.{refl}
use Rattle.coding.proofs.reader.Reader.take.Goals as goal

pub returns-then-bytes-start : goal.returns-then-bytes-start
returns-then-bytes-start c = reads_cut _ _ _ _ _ (take_none _ _ _ (grind arith)) refl

pub returns : goal.returns
returns c = reads_on _ _ _ _ _ _ (take_some _ _ _ (omega arith)) refl refl
