use lib.ListN.{take}
use Rattle.coding.proofs.Writes.{So}
use Rattle.text.specs.Hex.{hex_of}
use Rattle.text.proofs.put_hex.Given as goal

abbrev pub invariant-loop-b : goal.invariant-loop-b
invariant-loop-b l = So l.initial.buf l.at (hex_of (take l.b-index l.bytes)) l.p l.buf
