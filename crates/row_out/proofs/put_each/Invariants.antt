use Rattle.std.proofs.Common.{take}
use Rattle.coding.proofs.Writes.{So}
use Rattle.row_out.specs.Limits.{vars_bytes}
use Rattle.row_out.proofs.put_each.Given as goal

abbrev pub invariant-loop-val : goal.invariant-loop-val
invariant-loop-val l = So l.initial.buf l.at (vars_bytes (take l.val-index l.vals)) l.p l.buf
