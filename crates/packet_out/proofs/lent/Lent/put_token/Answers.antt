use native.Mathlib.Omega.{arith}
use mathlib.Core.Path.{◌≡◌}
use mathlib.Core.Bool.{true, false}
use lib.ListN.{length}
use Rattle.coding.specs.Varint.{var_bytes, var_size}
use Rattle.coding.proofs.Laws.{put_some, length_var}
use Rattle.coding.proofs.Writes.{put_none, put_fits, put_so, so_put}
use Rattle.packet_out.specs.Encoding.{token_bytes}
use Rattle.packet_out.proofs.Laws.{length_token}
use Rattle.packet_out.proofs.lent.Lent.put_token.Goals as goal

pub returns-then-not-has_token : goal.returns-then-not-has_token
unfolding token_bytes
returns-then-not-has_token c =
    let e : c.args.has_token ≡ false = c.if-not-has_token.true in
    rw e (put_none _ _)

pub returns : goal.returns
unfolding token_bytes
returns c =
    let a = c.args in
    let e : a.has_token ≡ true = c.if-not-has_token.false in
    let l = length_token a.self.token.now in
    let p = rw e at c.requires in
    let m : length (var_bytes (length a.self.token.now)) ≡ var_size (length a.self.token.now) = length_var _ in
    let u = rw (put_some (length a.self.token.now) (omega (arith, p.0, l))) at c.write_var-next.ensures in
    rw e (put_fits _ _ _ p.1 (so_put (put_so _ _ _ (omega (arith, p.1, l)) u) (omega (arith, p.1, l)) c.put_slice.ensures))
