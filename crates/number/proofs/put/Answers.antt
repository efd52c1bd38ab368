use Rattle.std.proofs.Common.{sym}
use Rattle.coding.proofs.Writes.{put_none}
use Rattle.number.proofs.Cuts.{put_out}
use Rattle.number.proofs.put.Goals as goal

pub returns-then-not-is_cut : goal.returns-then-not-is_cut
returns-then-not-is_cut c = rw (put_out _ (sym c.if-not-is_cut.ensures)) (put_none _ _)
