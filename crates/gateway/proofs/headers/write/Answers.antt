use mathlib.Core.Path.{sym, ◌∙◌}
use Rattle.std.proofs.lemmas.Result.{err_from_is_err_and}
use Rattle.packet_out.specs.Said.{encoded_of}
use Rattle.gateway.proofs.HeaderWrites.{encodes_no, outside_kind, outside_lengths, outside_by, for_no, for_ok}
use Rattle.gateway.proofs.headers.write.Goals as goal

pub returns-in_err-plain : goal.returns-in_err-plain
unfolding encoded_of
returns-in_err-plain c =
    let p = err_from_is_err_and c.from_residual.result c.from_residual.ensures.1 in
    let e = c.in_err-plain.ensures in
    rw (p.1, p.2, e.1) (encodes_no _ _ (for_no _ _ _ _ _ (outside_kind _ _ _ _ _ e.0)))

pub returns-then-are_outside : goal.returns-then-are_outside
unfolding encoded_of
returns-then-are_outside c = encodes_no _ _ (for_no _ _ _ _ _ (outside_lengths _ _ _ _ _ (sym c.are_outside.ensures ∙ c.if-are_outside.true)))

pub returns : goal.returns
returns c =
    let a = c.args in
    let o = outside_by _ _ _ _ _ c.in_ok-plain.ensures.0 ∙ sym c.are_outside.ensures ∙ c.if-are_outside.false in
    rw (for_ok a.header a.dst_cid.now a.src_cid.now a.token.now a.payload_len o, c.in_ok-plain.ensures.1) c.encode_for.ensures
