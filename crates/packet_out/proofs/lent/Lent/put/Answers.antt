use Prim.Native.Nat.{◌<◌}
use native.Mathlib.Omega.{arith}
use borrow.Author.Rules.{rules}
use Rattle.coding.specs.Bytes.{bytes_be}
use Rattle.shared.specs.Cid.{cid_of}
use Rattle.packet.specs.Said.{option_of}
use Rattle.packet_out.specs.Said.{shape_of}
use Rattle.packet_out.proofs.Laws.{length_shape}
use Rattle.packet_out.proofs.WholePut.{names_room, token_room, header_put}
use Rattle.packet_out.proofs.lent.Lent.put.Goals as goal

pub put_names-start-requires : goal.put_names-start-requires
put_names-start-requires c =
    let x : c.args.form.first < 256 = search rules in
    names_room _ _ _ _ _ _ x c.requires.1 c.put-names.ensures

pub put_token-length-requires : goal.put_token-length-requires
put_token-length-requires c =
    let a = c.args in
    let x : a.form.first < 256 = search rules in
    let l = length_shape (bytes_be 2 a.field) (shape_of a.form) (option_of a.form.number) (cid_of a.self.dst_cid.now) (cid_of a.self.src_cid.now) a.self.token.now in
    (omega (arith, c.requires.0, l), token_room _ _ _ _ _ _ x c.requires.1 c.put-names.ensures c.put_names-start.ensures)

pub returns : goal.returns
returns c =
    let x : c.args.form.first < 256 = search rules in
    header_put _ _ _ _ _ _ x c.requires.1 c.put-names.ensures c.put_names-start.ensures c.put_token-length.ensures c.put_length-at.ensures c.put_number.ensures
