use native.Mathlib.Omega.{arith}
use borrow.Author.Tests.{ltb-true, ltb-false}
use mathlib.Core.Path.{refl, sym, ◌∙◌}
use Prim.Native.Nat.{◌≤◌}
use lib.ListN.{length}
use Rattle.coding.specs.Said.{answer_of}
use Rattle.coding.proofs.Writes.{written_short, written_ok}
use Rattle.dump_text.specs.Dump.{dump_text}
use Rattle.dump_text.specs.Turns.{Roomy}
use Rattle.dump_text.proofs.dump.Goals as goal

pub returns-then-is_short : goal.returns-then-is_short
unfolding answer_of
returns-then-is_short c = written_short _ refl (ltb-true _ _ (sym c.is_short.ensures ∙ c.if-is_short.true))

pub put_lines-requires : goal.put_lines-requires
unfolding Roomy
put_lines-requires c = ltb-false _ _ (sym c.is_short.ensures ∙ c.if-is_short.false)

pub returns : goal.returns
unfolding answer_of
returns c =
    let a = c.args in
    let p = c.put_lines.ensures in
    let f : length (dump_text a.s.now) ≤ length a.buf.now =
    ltb-false _ _ (sym c.is_short.ensures ∙ c.if-is_short.false)
    in
    written_ok _ refl f (record { place = omega (arith, p.len); bytes = p.bytes refl })
