use Rattle.coding.proofs.Laws.{pow256, var_none, var_one, var_short, var_some, reads_on, reads_cut}
use native.Mathlib.Omega.{arith}
use mathlib.Core.Path.{refl}
use Prim.Native.Nat.{ℕ, ◌-◌, ◌+◌, ◌*◌, ◌%◌, ◌^◌, ◌≤◌}
use Rattle.std.specs.Prelude.{slice_index_or}
use native.Mathlib.Nat.{le_trans, mul-le-mul}
use borrow.Author.Rules.{rules}
use Rattle.coding.proofs.reader.Reader.get_var.Goals as goal

pub returns-then-bytes-at-clause-reads : goal.returns-then-bytes-at-clause-reads
returns-then-bytes-at-clause-reads c = reads_cut _ _ _ _ _ (var_none _ _ (omega arith)) refl

pub returns-then-first-lt64-clause-reads : goal.returns-then-first-lt64-clause-reads
returns-then-first-lt64-clause-reads c = reads_on _ _ _ _ _ _ (var_one _ _ (omega arith) (omega arith)) refl refl

pub returns-then-bytes-at-2-clause-reads : goal.returns-then-bytes-at-2-clause-reads
returns-then-bytes-at-2-clause-reads c = reads_cut _ _ _ _ _ (var_short _ _ _ (omega arith) c.var_len-n.ensures.0 (omega arith)) refl

pub be_from-requires : goal.be_from-requires
be_from-requires c =
    let n = c.var_len-n in (
      search rules,
      le_trans (mul-le-mul {n₂ = 64} (omega arith) (pow256 (n.result - 1) 7 (omega arith))) (omega arith),
    )

pub returns-clause-reads : goal.returns-clause-reads
returns-clause-reads c =
    let n = c.var_len-n in
    reads_on _ _ _ _ _ _ (var_some _ _ _ (omega arith) n.ensures.0 _ (omega arith) c.be_from.ensures.0) refl refl

pub returns-clause-below : goal.returns-clause-below
returns-clause-below c =
    let n = c.var_len-n in
    let r = c.args.self.now in
    let first : ℕ = slice_index_or r.bytes.now r.at 0 in
    let most : (first % 64 + 1) * 256 ^ (n.result - 1) ≤ 64 * 256 ^ 7 = mul-le-mul {n₂ = 64} (omega arith) (pow256 (n.result - 1) 7 (omega arith)) in
    omega (arith, c.be_from.ensures.1, most)
