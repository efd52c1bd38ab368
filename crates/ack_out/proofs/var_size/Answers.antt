use Rattle.std.proofs.Common.{sym, arith}
use Rattle.coding.proofs.Laws.{sized_bytes, size_le}
use Rattle.ack_out.proofs.Turns.{has_size}
use Rattle.ack_out.proofs.var_size.Goals as goal

pub unwrap-requires : goal.unwrap-requires
unwrap-requires c = has_size _ _ c.size.ensures c.requires

pub returns : goal.returns
returns c =
    let h = sized_bytes _ _ _ c.size.ensures c.unwrap.ensures in
    (sym h.1, omega (arith, h.1, size_le _ h.0))
