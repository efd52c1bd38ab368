use mathlib.Core.Path.{◌≡◌}
use Prim.Native.Nat.{◌+◌, ◌-◌}
use native.Mathlib.Omega.{arith}
use lib.ListN.{length}
use Rattle.ack_out.proofs.Lists.{kept, stepped}
use Rattle.ack_out.proofs.Frames.{ranged}
use Rattle.ack_out.proofs.Ranges.head.Goals as goal

pub overflow_sub-result : goal.overflow_sub-result
overflow_sub-result c = omega (arith, (kept _ c.args.self.keeps).some)

pub bounds-self-n : goal.bounds-self-n
bounds-self-n c = omega (arith, (kept _ c.args.self.keeps).some)

pub overflow_sub-result-2 : goal.overflow_sub-result-2
overflow_sub-result-2 c =
    let k = kept _ c.args.self.keeps in
    let e : length c.args.self.list.now - 2 + 1 ≡ length c.args.self.list.now - 1 = omega (arith, k.even, k.some) in
    let s = (stepped c.args.self.list.now (length c.args.self.list.now - 2) k (omega (arith, k.even, k.some))).above in
    omega (arith, rw e at s)

pub overflow_sub-result-3 : goal.overflow_sub-result-3
overflow_sub-result-3 c =
    let k = kept _ c.args.self.keeps in
    omega (arith, k.even, k.some)

pub returns : goal.returns
returns c =
    let h = ranged _ (kept _ c.args.self.keeps) in
    rw (c.ack_type.ensures, h.largest, h.count)
