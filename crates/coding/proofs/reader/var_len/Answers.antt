use native.Mathlib.Omega.{arith}
use mathlib.Core.Path.{◌≡◌}
use Prim.Native.Nat.{◌/◌}
use Rattle.coding.specs.Varint.{var_len}
use Rattle.coding.proofs.reader.var_len.Goals as goal

pub returns-in-0 : goal.returns-in-0
unfolding var_len
returns-in-0 c = (simp c.in-0.is, omega arith)

pub returns-in-1 : goal.returns-in-1
unfolding var_len
returns-in-1 c = (simp c.in-1.is, omega arith)

pub returns-in-2 : goal.returns-in-2
unfolding var_len
returns-in-2 c = (simp c.in-2.is, omega arith)

pub returns-in_default : goal.returns-in_default
unfolding var_len
returns-in_default c = let h : c.args.first / 64 ≡ 3 = omega (arith, c.in_default.in_default-own.rest) in (simp h, omega arith)
