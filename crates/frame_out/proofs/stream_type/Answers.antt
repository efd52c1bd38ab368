use Rattle.frame_out.specs.Frames.{stream_type}
use Rattle.frame_out.proofs.Vals.{type_bits}
use Rattle.frame_out.proofs.stream_type.Goals as goal

pub returns : goal.returns
unfolding stream_type
returns c = rw (c.from.ensures, c.from-2.ensures, c.from-3.ensures) (type_bits _ c.args.fin c.args.with_len)
