use Rattle.coding.proofs.Writes.{put_none}
use Rattle.packet_out.specs.Encoding.{length_bytes}
use Rattle.packet_out.proofs.form.Form.put_length.Goals as goal

pub returns-else-self : goal.returns-else-self
unfolding length_bytes
returns-else-self c = rw c.if-self.false (put_none _ _)
