use Rattle.std.proofs.Common.{rules, arith, ap, ◌∙◌}
use Rattle.std.proofs.lemmas.Result.{err_from_is_err_and}
use Rattle.coding.specs.Words.{ok}
use Rattle.coding.specs.Said.{answer_of}
use Rattle.protect.specs.Said.{opens_of}
use Rattle.protect.proofs.Cases.{maskable_is, changed_no, open_zero, open_no, still_left, open_done}
use Rattle.protect.proofs.finish_numbered.Goals as goal

pub returns-then-number_offset-eq0 : goal.returns-then-number_offset-eq0
unfolding opens_of
returns-then-number_offset-eq0 c = changed_no _ _ (open_zero _ _ _ _ c.if-number_offset-eq0.true)

pub returns-in_err-maskable : goal.returns-in_err-maskable
unfolding answer_of opens_of
returns-in_err-maskable c =
    let p = err_from_is_err_and c.from_residual.result c.from_residual.ensures.1 in
    rw (p.1, p.2) (changed_no _ _ (open_no _ _ _ _ c.if-number_offset-eq0.false c.in_err-maskable.ensures))

pub bounds-packet-0 : goal.bounds-packet-0
unfolding answer_of
bounds-packet-0 c =
    let m = maskable_is _ _ _ c.in_ok-maskable.ensures in
    search rules

pub mask_header-requires : goal.mask_header-requires
unfolding answer_of
mask_header-requires c =
    let m = maskable_is _ _ _ c.in_ok-maskable.ensures in
    (omega (arith, c.decode_len-len.ensures), omega arith)

pub decode-number-requires : goal.decode-number-requires
unfolding answer_of
decode-number-requires c =
    let s = still_left _ _ _ _ (maskable_is _ _ _ c.in_ok-maskable.ensures).sampled c.mask_header.ensures in
    (omega (arith, c.decode_len-len.ensures), omega (arith, c.decode_len-len.ensures, s))

pub returns : goal.returns
unfolding answer_of opens_of
returns c =
    let m = maskable_is _ _ _ c.in_ok-maskable.ensures in
    open_done _ _ _ _ c.if-number_offset-eq0.false m.sampled m.form _ _ _
    c.first_mask.ensures c.decode_len-len.ensures c.mask_header.ensures _ (ap ok (c.opened.ensures ∙ rw c.decode-number.ensures))
