use native.Mathlib.Omega.{arith}
use Prim.Native.Nat.{ℕ}
use mathlib.Core.Path.{refl, ap}
use mathlib.Core.List.{List}
use lib.ListN.{length}
use Rattle.coding.specs.Bytes.{splice}
use Rattle.shared.specs.Cid.{cid_of}
use Rattle.shared.specs.declared.cid.ConnectionId.{ConnectionId}
use Rattle.shared.proofs.Laws.{copied_all}
use Rattle.shared.proofs.cid.filled.Goals as goal

pub copy_on-at-requires : goal.copy_on-at-requires
unfolding splice
copy_on-at-requires c = (c.requires, (omega arith, (omega (arith, c.requires), refl)))

pub returns : goal.returns
unfolding cid_of
returns c =
    let bytes : List ℕ = c.args.bytes.now in
    let e = c.copy_on.ensures in
    let made : List ℕ → ConnectionId = λ l. record { len = length bytes; bytes = l } in
    ap made (copied_all bytes _ _ e.0 e.1.0 e.1.1)
