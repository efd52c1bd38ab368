use Rattle.coding.proofs.Laws.{pow256, fixed_none, fixed_some, reads_on, reads_cut}
use native.Mathlib.Omega.{arith}
use mathlib.Core.Path.{refl}
use borrow.Author.Rules.{rules}
use Rattle.coding.proofs.reader.Reader.be.Goals as goal

pub returns-then-bytes-at-clause-reads : goal.returns-then-bytes-at-clause-reads
returns-then-bytes-at-clause-reads c = reads_cut _ _ _ _ _ (fixed_none _ _ _ (grind arith)) refl

pub be_from-requires : goal.be_from-requires
be_from-requires c = (search rules, omega (arith, pow256 _ 8 c.requires))

pub returns-clause-reads : goal.returns-clause-reads
returns-clause-reads c = reads_on _ _ _ _ _ _ (fixed_some _ _ _ _ (omega arith) c.be_from.ensures.0) refl refl

pub returns-clause-below : goal.returns-clause-below
returns-clause-below c = omega (arith, c.be_from.ensures.1)
