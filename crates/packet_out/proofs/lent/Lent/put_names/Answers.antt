use Rattle.packet_out.proofs.WholePut.{names_run}
use Rattle.shared.specs.Cid.{cid_of}
use Rattle.packet_out.proofs.lent.Lent.put_names.Goals as goal

pub returns : goal.returns
returns c =
    let q = c.in-Some.is in
    rw q (names_run _ (cid_of c.args.self.dst_cid.now) (cid_of c.args.self.src_cid.now) (rw q at c.requires) c.put-to.ensures c.put_long-from.ensures c.put_long.ensures)
