use Prim.Native.Nat.{◌<◌}
use mathlib.Core.Path.{◌≡◌}
use native.Mathlib.Omega.{arith}
use lib.ListN.{length, take, length-take}
use lib.Seq.{take_all}
use Rattle.coding.proofs.Writes.{so_put, put_fits}
use Rattle.text.proofs.Laws.{length_hex, hex_more}
use Rattle.text.proofs.put_hex.Goals as goal

pub loop-b-preserved : goal.loop-b-preserved
loop-b-preserved c =
    let l = c.loop-b in
    let bs = c.args.bytes.now in
    let h : l.b-index < length bs = omega arith in
    let n : length (take l.b-index bs) ≡ l.b-index = simp length-take (omega arith) in
    let k = length_hex (take l.b-index bs) in
    rw (hex_more bs l.b-index h)
    (so_put l.invariant (omega arith) (rw (c.hex_digit.ensures, c.hex_digit-in-loop-b.ensures) at c.put_slice-p.ensures))

pub returns : goal.returns
returns c =
    let l = c.loop-b in
    let bs = c.args.bytes.now in
    let e : take l.b-index bs ≡ bs = take_all l.b-index bs (omega arith) in
    put_fits _ _ _ (omega (arith, length_hex bs)) (rw e at l.invariant)
