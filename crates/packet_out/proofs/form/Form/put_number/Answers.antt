use Rattle.coding.proofs.Writes.{put_none}
use Rattle.packet_out.specs.Encoding.{number_field}
use Rattle.packet_out.proofs.WholePut.{number_run}
use Rattle.packet_out.proofs.form.Form.put_number.Goals as goal

pub returns-in-Some : goal.returns-in-Some
unfolding number_field
returns-in-Some c = rw c.in-Some.is (number_run _ (rw c.in-Some.is at c.args.self.kept) c.put.ensures)

pub returns-in-None : goal.returns-in-None
unfolding number_field
returns-in-None c = rw c.in-None.is (put_none _ _)
