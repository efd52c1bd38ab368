use Rattle.shared.proofs.Laws.{part_short}
use native.Mathlib.Omega.{arith}
use Rattle.shared.proofs.cid.ConnectionId.at.Goals as goal

pub filled-requires : goal.filled-requires
filled-requires c = rw c.part.ensures.bytes (omega (arith, part_short c.args.s.now c.args.p))
