use Rattle.std.proofs.Common.{refl, rules, arith}
use Rattle.std.proofs.lemmas.Result.{err_from_is_err_and}
use Rattle.coding.specs.Said.{answer_of}
use Rattle.protect.proofs.Cases.{maskable_is, changed_no, changed_ok, protect_no, protect_done}
use Rattle.protect.proofs.protect_numbered.Goals as goal

pub returns-in_err-maskable : goal.returns-in_err-maskable
unfolding answer_of
returns-in_err-maskable c =
    let p = err_from_is_err_and c.from_residual.result c.from_residual.ensures.1 in
    rw (p.1, p.2) (changed_no _ _ (protect_no _ _ _ _ c.in_err-maskable.ensures))

pub bounds-packet-0 : goal.bounds-packet-0
unfolding answer_of
bounds-packet-0 c =
    let m = maskable_is _ _ _ c.in_ok-maskable.ensures in
    search rules

pub mask_header-requires : goal.mask_header-requires
unfolding answer_of
mask_header-requires c =
    let m = maskable_is _ _ _ c.in_ok-maskable.ensures in
    (omega (arith, c.decode_len-n.ensures), omega arith)

pub returns : goal.returns
unfolding answer_of
returns c =
    let m = maskable_is _ _ _ c.in_ok-maskable.ensures in
    changed_ok _ _ (protect_done _ _ _ _ m.sampled m.form c.first_mask.ensures c.decode_len-n.ensures c.mask_header.ensures) refl
