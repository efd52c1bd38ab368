use mathlib.Core.Path.{refl}
use Rattle.coding.specs.Varint.{var_tag, var_size}
use Rattle.frame.specs.Table.{table}
use Rattle.row_out.specs.Bounds.{bound_of}
use Rattle.frame_out.specs.Bounds.{size_bounds}
use Rattle.frame_out.proofs.size_bounds.Goals as goal

pub returns : goal.returns
unfolding size_bounds bound_of table var_size var_tag
returns c = refl
