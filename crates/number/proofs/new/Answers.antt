use Rattle.std.proofs.Common.{◌<◌, arith}
use Rattle.std.proofs.Math.Nat.{mod-lt}
use Rattle.number.proofs.Cuts.{found_window}
use Rattle.number.proofs.new.Goals as goal

pub nonzero_rem-value : goal.nonzero_rem-value
nonzero_rem-value c = omega (arith, c.window.ensures, found_window c.args.n.0 c.args.largest_acked.0 _ c.in-Some.ensures)

pub overflow_cast-result : goal.overflow_cast-result
overflow_cast-result c =
    let w = found_window c.args.n.0 c.args.largest_acked.0 c.in-Some.k c.in-Some.ensures in
    let p : 0 < c.window.result = omega (arith, w, c.window.ensures) in
    omega (arith, w, c.window.ensures, mod-lt c.args.n.0 p)
