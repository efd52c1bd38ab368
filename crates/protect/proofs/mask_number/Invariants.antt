use Rattle.std.proofs.Common.{◌≡◌, take, drop}
use Rattle.protect.specs.Protection.{xor}
use Rattle.protect.proofs.mask_number.Given as goal

abbrev pub invariant-loop-i : goal.invariant-loop-i
invariant-loop-i l = l.b-items ≡ xor (take l.i (drop 1 l.mask)) l.initial.b-items
