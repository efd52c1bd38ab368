use native.Mathlib.Omega.{arith}
use mathlib.Core.Path.{◌≡◌, ◌∙◌}
use native.Mathlib.Nat.{sub-zero, sub_self, add-zero, div-one}
use Rattle.text.proofs.Steps.{digit_more, rest_more, last_none, sets_decimal}
use Rattle.text.proofs.put_digits.Goals as goal

pub loop-i-init : goal.loop-i-init
loop-i-init c = (last_none _ _ _ _, simp (sub_self, div-one))

pub loop-i-preserved : goal.loop-i-preserved
loop-i-preserved c =
    let l = c.loop-i in
    let a = c.args in (
      rw (l.invariant.0, l.invariant.1) (digit_more a.buf.now a.at a.n a.x l.i c.loop-i-test.true (omega arith)),
      rw l.invariant.1 (rest_more a.n a.x l.i c.loop-i-test.true (omega arith)),
    )

pub returns : goal.returns
returns c =
    let a = c.args in
    let e : c.loop-i.i ≡ 0 = omega arith in
    c.loop-i.invariant.0 ∙ simp (e, add-zero, sub-zero, c.requires.0) (sets_decimal a.buf.now a.at a.x (omega (arith, c.requires)))
