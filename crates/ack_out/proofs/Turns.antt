-- What one turn of the loops over the blocks does.
use Rattle.std.specs.Prelude.{Result, Ok, Err, IsOk}
use mathlib.Core.Path.{◌≡◌, refl, sym, ap, ◌∙◌}
use mathlib.Core.List.{List, [], ◌++◌, append_assoc, append-nil}
use Prim.Native.Nat.{ℕ, ◌+◌, ◌-◌, ◌*◌, ◌/◌, ◌≤◌, ◌<◌, ◌^◌}
use native.Mathlib.Omega.{arith}
use lib.ListN.{length, length-append}
use Rattle.coding.specs.Said.{answer_of}
use Rattle.coding.specs.Varint.{var_bytes, var_size, var_sized, var_put}
use Rattle.coding.specs.declared.refusal.Refusal.{Refusal}
use Rattle.coding.specs.Writing.{Put}
use Rattle.coding.proofs.Laws.{sized_not, length_var, size_le, put_some}
use Rattle.coding.proofs.Writes.{So, so_none, so_put, put_fits}
use Rattle.row_out.specs.Limits.{vars_bytes}
use Rattle.ack_out.specs.Acks.{all_ranges, block_bytes}
use Rattle.ack_out.proofs.Lists.{at, Kept, blocks_of, step_bytes, bytes_one, bytes_none}

-- an integer that has a form has a size
pub has_size : (r : Result ℕ Refusal) (x : ℕ) → answer_of r ≡ var_sized x → x < 2 ^ 62 → IsOk r
has_size (Ok n) x e h = refl
has_size (Err why) x e h = absurd (omega (arith, sized_not (Err why) x why e refl))

-- the blocks are the differences from the last number down
pub blocks_steps : (l : List ℕ) → Kept l → block_bytes (all_ranges l) ≡ step_bytes l (length l - 1)
blocks_steps l k = ap vars_bytes (blocks_of l (length l / 2 - 1) k (omega arith)).numbers

-- the difference above number i is x
abbrev pub Is : List ℕ → ℕ → ℕ → Type 0
Is l i x = (x ≡ at l (i + 1) - at l i - 1) × (x < 2 ^ 62)

-- ---- the sum so far, of the differences above number i

pub record Summed (l : List ℕ) (len i : ℕ) : Type 0 where
  pub inside : i < length l
  pub sum : len + length (step_bytes l i) ≡ length (block_bytes (all_ranges l))
  pub few : len + 8 * i ≤ 8 * length l

module _ (l : List ℕ) where
  pub sum_start : Kept l → Summed l 0 (length l - 1)
  sum_start k = record { inside = omega (arith, k.some); sum = rw (blocks_steps l k) (omega arith); few = omega arith }

  pub sum_on : (len i x : ℕ) → Summed l len i → 0 < i → Is l (i - 1) x → Summed l (len + var_size x) (i - 1)
  sum_on len i x s h d =
      let b : length (step_bytes l i) ≡ var_size x + length (step_bytes l (i - 1)) =
      ap length (bytes_one l i x h d.0) ∙ simp (length-append, length_var) in
      record { inside = omega (arith, s.inside); sum = omega (arith, s.sum); few = omega (arith, s.few, size_le x d.1) }

  pub sum_end : (len i : ℕ) → Summed l len i → i ≤ 0 → len ≡ length (block_bytes (all_ranges l))
  sum_end len i s h =
      let b : length (step_bytes l i) ≡ 0 = ap length (bytes_none l i h) in
      omega (arith, s.sum)

-- ---- what is put so far

pub record Puts (l old : List ℕ) (at : ℕ) (new : List ℕ) (next i : ℕ) : Type 0 where
  pub inside : i < length l
  pub done : List ℕ
  pub all : done ++ step_bytes l i ≡ block_bytes (all_ranges l)
  pub so : So old at done next new

module _ (l old : List ℕ) (at : ℕ) where
  pub puts_start : Kept l → Puts l old at old at (length l - 1)
  puts_start k = record { inside = omega (arith, k.some); done = []; all = sym (blocks_steps l k); so = so_none old at }

  module _ (new : List ℕ) (next i : ℕ) (s : Puts l old at new next i) (room : at + length (block_bytes (all_ranges l)) ≤ length old) where
    pub puts_on : (x past : ℕ) (new' : List ℕ) → 0 < i → Is l (i - 1) x → Put (var_put x) new next past new' → Puts l old at new' past (i - 1)
    puts_on x past new' h d p =
        let e : s.done ++ (var_bytes x ++ step_bytes l (i - 1)) ≡ block_bytes (all_ranges l) = rw (← bytes_one l i x h d.0) s.all in
        let f : (s.done ++ var_bytes x) ++ step_bytes l (i - 1) ≡ block_bytes (all_ranges l) = rw append_assoc e in
        let g : length s.done + (length (var_bytes x) + length (step_bytes l (i - 1))) ≡ length (block_bytes (all_ranges l)) =
        simp (length-append) at (ap length e) in
        record {
          inside = omega (arith, s.inside);
          done = s.done ++ var_bytes x;
          all = f;
          so = so_put s.so (omega arith) (rw (put_some x d.1) at p);
        }

    pub puts_end : i ≤ 0 → Put (block_bytes (all_ranges l)) old at next new
    puts_end h =
        let e : s.done ≡ block_bytes (all_ranges l) = rw (bytes_none l i h, append-nil) at s.all in
        put_fits _ _ _ room (rw e at s.so)
