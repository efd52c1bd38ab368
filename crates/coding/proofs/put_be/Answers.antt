use native.Mathlib.Omega.{arith}
use borrow.Author.Rules.{rules}
use native.Mathlib.Nat.{sub_self, sub-zero, add-zero, div-one}
use mathlib.Core.Path.{◌≡◌, ◌∙◌}
use Rattle.coding.specs.Bytes.{bytes_be}
use Rattle.coding.proofs.Laws.{length_bytes_be}
use Rattle.coding.proofs.Steps.{put_more, rest_more, sets_splice}
use Rattle.coding.proofs.put_be.Goals as goal

pub loop-i-init : goal.loop-i-init
unfolding bytes_be
loop-i-init c = (search rules, (simp sub_self, simp (sub_self, div-one)))

pub loop-i-preserved : goal.loop-i-preserved
loop-i-preserved c =
    let l = c.loop-i in
    let i = l.invariant in
    let a = c.args in (
      omega arith,
      (
        rw (i.1.0, i.1.1) (put_more a.buf.now a.at a.n a.x l.i (omega arith) i.0),
        rw i.1.1 (rest_more a.n a.x l.i (omega arith) i.0),
      ),
    )

pub returns : goal.returns
returns c =
    let a = c.args in
    let e : c.loop-i.i ≡ 0 = omega arith in
    c.loop-i.invariant.1.0
    ∙ simp (e, add-zero, sub-zero) (sets_splice a.buf.now (bytes_be a.n a.x) a.at (simp length_bytes_be c.requires))
