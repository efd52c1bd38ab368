use Rattle.coding.proofs.codec.U64Codec.decode.Goals as goal

pub returns : goal.returns
returns c = c.be.ensures.reads
