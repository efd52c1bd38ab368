-- What the answer of the block scan says of the field of ACK blocks.
use Rattle.std.specs.Prelude.{Result, Ok}
use mathlib.Core.Path.{◌≡◌}
use mathlib.Core.List.{List}
use Prim.Native.Nat.{ℕ, ◌≤◌}
use native.Mathlib.Omega.{arith}
use Rattle.coding.specs.declared.refusal.Refusal.{Refusal}
use Rattle.ack.specs.Scan.{scanned}
use Rattle.coding.specs.Said.{answer_of}
use Rattle.ack.proofs.Laws.{scan_inside}

-- the scan ends at its start or past it
pub scan_past : (s : List ℕ) (p largest n : ℕ) (r : Result ℕ Refusal) (next : ℕ) → answer_of r ≡ scanned s p largest n → r ≡ Ok next → p ≤ next
unfolding answer_of scanned
scan_past s p largest n r next e q = let i = scan_inside s p largest n in grind (arith, scan_inside)
