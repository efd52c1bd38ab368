use native.Mathlib.Omega.{arith}
use borrow.Author.Tests.{le-ltb}
use mathlib.Core.Path.{sym, ap}
use lib.ListN.{length}
use lib.Dec.{ltb}
use Rattle.dump_text.specs.Dump.{dump_text}
use Rattle.dump_text.proofs.Bounds.{text_fits}
use Rattle.dump_text.proofs.is_short.Goals as goal

pub returns-then-room-s-ge64 : goal.returns-then-room-s-ge64
returns-then-room-s-ge64 c =
    let a = c.args in
    sym (le-ltb a.room (length (dump_text a.s.now)) (omega (arith, (text_fits a.s.now).0)))

pub returns : goal.returns
returns c = ap (ltb _) c.text_len.ensures
