use Prim.Native.Nat.{◌+◌, ◌-◌}
use Rattle.coding.proofs.Laws.{part_in, start_in, part_out, start_out}
use native.Mathlib.Omega.{arith}
use mathlib.Core.Path.{refl}
use Rattle.coding.proofs.part.Goals as goal

pub returns-then-s-start : goal.returns-then-s-start
returns-then-s-start c =
    let a = c.args in
    record {
      bytes = part_out a.s.now a.p (omega arith);
      block = refl;
      offset = omega (arith, start_out a.s.now a.p (omega arith));
    }

pub returns : goal.returns
returns c =
    let a = c.args in
    record {
      bytes = part_in a.s.now a.p (a.p.start + a.p.len - a.p.start) (omega arith) (omega arith);
      block = refl;
      offset = omega (arith, start_in a.s.now a.p (omega arith));
    }
