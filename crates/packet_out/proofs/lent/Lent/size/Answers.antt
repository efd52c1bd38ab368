use native.Mathlib.Omega.{arith}
use mathlib.Core.Path.{◌≡◌, sym, ap, ◌∙◌}
use mathlib.Core.Bool.{true, false}
use borrow.Author.Tests.{not-true, not-false}
use Rattle.coding.specs.Words.{ok}
use Rattle.coding.specs.Said.{answer_of}
use Rattle.coding.proofs.Laws.{sized_bytes, sized_not, size_le}
use Rattle.shared.specs.Cid.{cid_of}
use Rattle.packet_out.specs.Encoding.{placeholder}
use Rattle.packet.specs.Said.{option_of}
use Rattle.packet_out.specs.Said.{shape_of}
use Rattle.packet_out.proofs.Laws.{size_bare, size_token, header_fits, header_long}
use Rattle.packet_out.proofs.lent.Lent.size.Goals as goal

pub returns-then-not-form : goal.returns-then-not-form
unfolding answer_of
returns-then-not-form c =
    let a = c.args in
    let h : a.form.has_token ≡ false = not-true _ c.if-not-form.true in
    let l = size_bare placeholder (shape_of a.form) (option_of a.form.number) (cid_of a.self.dst_cid.now) (cid_of a.self.src_cid.now) a.self.token.now _ c.fixed_size-fixed.ensures.0 h in
    sym (header_fits _ _ (omega (arith, l, c.fixed_size-fixed.ensures.1)) ∙ ap ok l)

pub returns-then-len-gt-MAX_DATAGRAM : goal.returns-then-len-gt-MAX_DATAGRAM
unfolding answer_of
returns-then-len-gt-MAX_DATAGRAM c =
    let a = c.args in
    let h : a.form.has_token ≡ true = not-false _ c.if-not-form.false in
    let l = size_token placeholder (shape_of a.form) (option_of a.form.number) (cid_of a.self.dst_cid.now) (cid_of a.self.src_cid.now) a.self.token.now _ c.fixed_size-fixed.ensures.0 h in
    sym (header_long _ _ (omega (arith, l)))

pub returns-in_err-n : goal.returns-in_err-n
returns-in_err-n c = let n = sized_not _ _ _ c.size.ensures c.in_err-n.was in absurd (omega (arith, n))

pub overflow_add-all : goal.overflow_add-all
overflow_add-all c =
    let n = sized_bytes _ _ _ c.size.ensures c.in_ok-n.was in
    omega (arith, c.fixed_size-fixed.ensures.1, n.1, size_le _ n.0)

pub overflow_add-all-2 : goal.overflow_add-all-2
overflow_add-all-2 c =
    let n = sized_bytes _ _ _ c.size.ensures c.in_ok-n.was in
    omega (arith, c.fixed_size-fixed.ensures.1, n.1, size_le _ n.0)

pub returns-then-all-gt-MAX_DATAGRAM : goal.returns-then-all-gt-MAX_DATAGRAM
unfolding answer_of
returns-then-all-gt-MAX_DATAGRAM c =
    let a = c.args in
    let h : a.form.has_token ≡ true = not-false _ c.if-not-form.false in
    let l = size_token placeholder (shape_of a.form) (option_of a.form.number) (cid_of a.self.dst_cid.now) (cid_of a.self.src_cid.now) a.self.token.now _ c.fixed_size-fixed.ensures.0 h in
    let n = sized_bytes _ _ _ c.size.ensures c.in_ok-n.was in
    sym (header_long _ _ (omega (arith, l, n.1)))

pub returns : goal.returns
unfolding answer_of
returns c =
    let a = c.args in
    let h : a.form.has_token ≡ true = not-false _ c.if-not-form.false in
    let l = size_token placeholder (shape_of a.form) (option_of a.form.number) (cid_of a.self.dst_cid.now) (cid_of a.self.src_cid.now) a.self.token.now _ c.fixed_size-fixed.ensures.0 h in
    let n = sized_bytes _ _ _ c.size.ensures c.in_ok-n.was in
    sym (header_fits _ _ (omega (arith, l, n.1)) ∙ ap ok (l ∙ rw n.1))
