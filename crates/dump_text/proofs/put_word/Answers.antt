use native.Mathlib.Omega.{arith}
use Rattle.shared.proofs.Laws.{one_byte}
use Rattle.dump_text.specs.Dump.{number_then}
use Rattle.dump_text.proofs.Puts.{two}
use Rattle.dump_text.proofs.put_word.Goals as goal

pub returns : goal.returns
unfolding number_then
returns c = two _ _ c.requires c.put_decimal-next.ensures (rw (one_byte c.args.after (omega arith)) at c.put.ensures)
