use Prim.Native.Nat.{◌≤◌, ◌<◌, ◌^◌}
use native.Mathlib.Omega.{arith}
use lib.Count.{leading_le}
use Rattle.coding.specs.Varint.{var_sized, in62, var_size, var_tag}
use Rattle.coding.specs.Said.{answer_of}
use Rattle.coding.proofs.Rules.{tests}
use Rattle.coding.proofs.Bits.{bits_most, bits_more}
use Rattle.coding.proofs.varint.VarInt.size.Goals as goal

pub overflow_sub-used : goal.overflow_sub-used
overflow_sub-used c = leading_le 64 c.args.self.0

pub returns-then-used-le6 : goal.returns-then-used-le6
unfolding answer_of var_sized in62 var_size var_tag
returns-then-used-le6 c =
    let x = c.args.self.0 in
    let h = bits_most x 6 (omega arith) c.if-used-le6.true in
    let k : x < 2 ^ 62 = omega arith in
    search tests

pub returns-then-used-le14 : goal.returns-then-used-le14
unfolding answer_of var_sized in62 var_size var_tag
returns-then-used-le14 c =
    let x = c.args.self.0 in
    let g = bits_more x 6 (omega arith) c.if-used-le6.false in
    let h = bits_most x 14 (omega arith) c.if-used-le14.true in
    let k : x < 2 ^ 62 = omega arith in
    search tests

pub returns-then-used-le30 : goal.returns-then-used-le30
unfolding answer_of var_sized in62 var_size var_tag
returns-then-used-le30 c =
    let x = c.args.self.0 in
    let g = bits_more x 14 (omega arith) c.if-used-le14.false in
    let h = bits_most x 30 (omega arith) c.if-used-le30.true in
    let k : (2 ^ 6 ≤ x) × (x < 2 ^ 62) = omega arith in
    search tests

pub returns-then-used-le62 : goal.returns-then-used-le62
unfolding answer_of var_sized in62 var_size var_tag
returns-then-used-le62 c =
    let x = c.args.self.0 in
    let g = bits_more x 30 (omega arith) c.if-used-le30.false in
    let h = bits_most x 62 (omega arith) c.if-used-le62.true in
    let k : (2 ^ 6 ≤ x) × (2 ^ 14 ≤ x) = omega arith in
    search tests

pub returns : goal.returns
unfolding answer_of var_sized in62 var_size var_tag
returns c =
    let h = bits_more c.args.self.0 62 (omega arith) c.if-used-le62.false in
    search tests
