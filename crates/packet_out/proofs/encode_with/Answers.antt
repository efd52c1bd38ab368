use Rattle.std.proofs.lemmas.Result.{err_from_is_err_and}
use native.Mathlib.Omega.{arith}
use mathlib.Core.Path.{ap, ◌∙◌}
use Rattle.coding.specs.Bytes.{bytes_be}
use Rattle.coding.specs.Said.{answer_of}
use Rattle.coding.proofs.Laws.{length_bytes_be}
use Rattle.coding.proofs.Writes.{written_no, written_short, written_ok, put_so}
use Rattle.shared.specs.Cid.{cid_of}
use Rattle.packet_out.specs.Encoding.{Shape, number_len_in}
use Rattle.packet_out.specs.Said.{encoded_of}
use Rattle.packet_out.proofs.Laws.{out_rules, out_long, out_ok, long_seen, sized, encodes_no, encodes_ok, refuses}
use Rattle.packet_out.proofs.encode_with.Goals as goal

pub returns-in_err-form : goal.returns-in_err-form
returns-in_err-form c =
    let f = c.in_err-form.ensures in
    refuses _ _ _ (err_from_is_err_and _ c.from_residual.ensures.1) f.0 (out_rules _ _ _ _ _ _ f.1)

pub returns-in_err-len : goal.returns-in_err-len
unfolding answer_of cid_of
returns-in_err-len c =
    let l = c.args.lent in
    let f = c.in_ok-form.ensures in
    let h = long_seen _ _ _ c.in_err-len.ensures in
    refuses _ _ _ (err_from_is_err_and _ c.from_residual-in_err-len.ensures.1) h.1
    (out_long _ _ _ _ _ _ _ f.1 l.to l.from c.in_ok-form.form.kept _ f.0 (omega (arith, h)))

pub overflow_sub-len : goal.overflow_sub-len
unfolding answer_of
overflow_sub-len c = omega (arith, sized (bytes_be 2 0) _ _ _ _ _ _ (length_bytes_be 2 0) c.in_ok-len.ensures)

pub returns-then-len-n : goal.returns-then-len-n
unfolding answer_of encoded_of cid_of
returns-then-len-n c =
    let l = c.args.lent in
    let f = c.in_ok-form.ensures in
    let h = sized (bytes_be 2 0) _ _ _ _ _ _ (length_bytes_be 2 0) c.in_ok-len.ensures in
    encodes_no _ (written_no _ (out_long _ _ _ _ _ _ _ f.1 l.to l.from c.in_ok-form.form.kept _ f.0 (omega (arith, h))))

pub returns-then-buf-len : goal.returns-then-buf-len
unfolding answer_of encoded_of cid_of
returns-then-buf-len c =
    let l = c.args.lent in
    let f = c.in_ok-form.ensures in
    let h = sized (bytes_be 2 c.args.field) _ _ _ _ _ _ (length_bytes_be 2 c.args.field) c.in_ok-len.ensures in
    encodes_no _ (written_short _ (out_ok _ _ _ _ _ _ _ f.1 l.to l.from c.in_ok-form.form.kept _ f.0 (omega (arith, h))) (omega (arith, h)))

pub put-requires : goal.put-requires
unfolding answer_of
put-requires c =
    let h = sized (bytes_be 2 c.args.field) _ _ _ _ _ _ (length_bytes_be 2 c.args.field) c.in_ok-len.ensures in
    (omega (arith, h), omega (arith, h))

pub returns : goal.returns
unfolding answer_of encoded_of cid_of
returns c =
    let l = c.args.lent in
    let f = c.in_ok-form.ensures in
    let h = sized (bytes_be 2 c.args.field) _ _ _ _ _ _ (length_bytes_be 2 c.args.field) c.in_ok-len.ensures in
    encodes_ok _ (c.number_len.ensures ∙ ap number_len_in f.1) (ap (λ (x : Shape). x.has_length) f.0)
    (written_ok _ (out_ok _ _ _ _ _ _ _ f.1 l.to l.from c.in_ok-form.form.kept _ f.0 (omega (arith, h))) (omega (arith, h)) (put_so _ _ _ (omega (arith, h)) c.put.ensures))
