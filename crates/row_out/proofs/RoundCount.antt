-- The rounds of ACK blocks that were written as integers: one for each two past the first.
use mathlib.Core.Path.{◌≡◌, refl, ap}
use mathlib.Core.List.{List, [], ◌∷◌, ◌++◌, append_assoc}
use mathlib.Core.Bool.{true}
use Prim.Native.Nat.{ℕ, zero, suc, ◌+◌, ◌-◌, ◌/◌, ◌≤◌}
use native.Mathlib.Omega.{arith}
use lib.ListN.{length, length-append}
use Rattle.coding.specs.Words.{and_then}
use Rattle.coding.specs.Varint.{var_size, var_bytes}
use Rattle.coding.proofs.Back.{var_back}
use Rattle.coding.proofs.Laws.{length_var, size_pos, var_none}
use Rattle.row_out.specs.Writing.{integers_in, rounds_in}
use Rattle.row_out.specs.Limits.{below62, vars_bytes}
use Rattle.row_out.proofs.Laws.{below_cons}

more : (x : ℕ) (xs : List ℕ) → length (var_bytes x ++ vars_bytes xs) ≡ var_size x + length (vars_bytes xs)
more x xs = simp (length-append, length_var)

integers_vars : (most : ℕ) (xs p : List ℕ) → below62 xs ≡ true → length (vars_bytes xs) ≤ most → integers_in most (p ++ vars_bytes xs) (length p) ≡ length xs
unfolding integers_in vars_bytes and_then
integers_vars zero [] p b h = refl
integers_vars (suc most) [] p b h = rw (← var_none (p ++ []) (length p) (simp length-append (omega arith)))
integers_vars zero (x ∷ xs) p b h = absurd (omega (arith, more x xs, size_pos x))
integers_vars (suc most) (x ∷ xs) p b h =
    let c = below_cons x xs b in
    let e : length (p ++ var_bytes x) ≡ length p + var_size x = simp (length-append, length_var) in
    let ih = integers_vars most xs (p ++ var_bytes x) c.1 (omega (arith, more x xs, size_pos x)) in
    rw (var_back p (vars_bytes xs) x c.0) (ap suc (rw (e, append_assoc p (var_bytes x) (vars_bytes xs)) at ih))

pub rounds_vars : (xs : List ℕ) → below62 xs ≡ true → rounds_in (vars_bytes xs) ≡ (length xs - 1) / 2
unfolding rounds_in
rounds_vars xs b = rw (integers_vars (length (vars_bytes xs)) xs [] b (omega arith))
