-- What is read in a part of a list is read there in the whole list.
use Rattle.std.specs.Prelude.{if◌then◌else◌}
use mathlib.Core.Path.{◌≡◌, refl, ◌∙◌}
use mathlib.Core.List.{List, ◌++◌}
use mathlib.Core.Bool.{Bool, true, false}
use Prim.Native.Nat.{ℕ, zero, suc, ◌+◌, ◌-◌}
use native.Mathlib.Omega.{arith}
use lib.ListN.{length}
use lib.Seq.{drop_at}
use lib.Dec.{ltb}
use Rattle.coding.specs.Words.{Got, cut, got, and_then, Answer, no, ok}
use Rattle.coding.specs.Varint.{var_at}
use Rattle.coding.proofs.Shift.{var_behind, var_before}
use Rattle.ack.specs.Scan.{rounds, scan_at}

module _ (p d q : List ℕ) where
  pub var_local : (at v n : ℕ) → var_at d at ≡ got v n → var_at (p ++ (d ++ q)) (length p + at) ≡ got v (length p + n)
  var_local at v n e =
      var_behind (p ++ (d ++ q)) (length p) at ∙ rw (drop_at p (d ++ q) (length p) refl, var_before d q at v n e)

  -- a field, and a test, and what follows it
  module _ (m : ℕ) where
    then_local : (at : ℕ) (f g : ℕ → ℕ → Answer ℕ) → ((v n : ℕ) → f v n ≡ ok m → g v (length p + n) ≡ ok (length p + m))
        → (r : Got ℕ) → var_at d at ≡ r → and_then r (no 10) f ≡ ok m → and_then (var_at (p ++ (d ++ q)) (length p + at)) (no 10) g ≡ ok (length p + m)
    unfolding and_then
    then_local at f g h (got v n) e x = rw (var_local at v n e) (h v n x)
    then_local at f g h cut e x = let z : ◌≡◌ {A = ℕ} 0 1 = cc in absurd (omega arith)

    if_local : (a b : ℕ) (x y : Answer ℕ) → (x ≡ ok m → y ≡ ok (length p + m)) → (if ltb a b then no 12 else x) ≡ ok m → (if ltb a b then no 12 else y) ≡ ok (length p + m)
    if_local a b x y h = go (ltb a b)
      where
        go : (t : Bool) → (if t then no 12 else x) ≡ ok m → (if t then no 12 else y) ≡ ok (length p + m)
        go true e = let z : ◌≡◌ {A = ℕ} 0 1 = cc in absurd (omega arith)
        go false e = h e

  rounds_local : (n at low m : ℕ) → rounds d n at low ≡ ok m → rounds (p ++ (d ++ q)) n (length p + at) low ≡ ok (length p + m)
  unfolding rounds
  rounds_local zero at low m e = let i : at ≡ m = cc in rw i
  rounds_local (suc n) at low m e =
      then_local m at _ _ (λ gap mid. if_local m low (gap + 2) _ _
      (then_local m mid _ _ (λ block past. if_local m (low - (gap + 2)) block _ _
      (rounds_local n past (low - (gap + 2) - block) m)) (var_at d mid) refl)) (var_at d at) refl e

  -- the scan of ACK blocks
  pub scan_local : (at largest n m : ℕ) → scan_at d at largest n ≡ ok m → scan_at (p ++ (d ++ q)) (length p + at) largest n ≡ ok (length p + m)
  unfolding scan_at
  scan_local at largest n m e =
      then_local m at _ _ (λ first after. if_local m largest first _ _ (rounds_local n after (largest - first) m)) (var_at d at) refl e
