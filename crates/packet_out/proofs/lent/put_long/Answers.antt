use Rattle.packet_out.proofs.WholePut.{long_run}
use Rattle.packet_out.proofs.lent.put_long.Goals as goal

pub returns : goal.returns
returns c =
    long_run c.args.cid.now c.requires.0 c.requires.1 c.put-next.ensures c.put_slice.ensures
