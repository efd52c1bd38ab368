-- The frame's bytes, its size and its refusals.
use Rattle.std.specs.Prelude.{if◌then◌else◌, Result, Ok, Err}
use mathlib.Core.Path.{◌≡◌, refl, sym, ap, ◌∙◌}
use mathlib.Core.List.{List, [], ◌∷◌, ◌++◌, append_assoc, append-nil}
use mathlib.Core.Bool.{Bool, true, false}
use mathlib.Core.Option.{Option, none, some}
use Prim.Native.Nat.{ℕ, zero, suc, ◌+◌, ◌-◌, ◌*◌, ◌/◌, ◌≤◌, ◌<◌, ◌^◌}
use native.Mathlib.Numerals.{add-one}
use native.Mathlib.Omega.{arith}
use lib.Dec.{leb}
use lib.ListN.{length, length-append}
use borrow.Author.Tests.{leb-true, leb-false}
use Rattle.coding.specs.Words.{Answer, no, ok}
use Rattle.coding.specs.Varint.{var_bytes, var_size}
use Rattle.coding.proofs.Laws.{length_var, size_pos}
use Rattle.coding.specs.Writing.{length_of}
use Rattle.coding.specs.Refusals.{number_of}
use Rattle.coding.specs.Said.{answer_of}
use Rattle.coding.specs.declared.refusal.Refusal.{Refusal}
use Rattle.frame.specs.Table.{table}
use Rattle.row_out.specs.Writing.{rounds_in, field_bytes, row_bytes, frame_bytes}
use Rattle.row_out.specs.Limits.{below62, in_frame, limited, word_numbers, frame_out, vars_bytes, vars_out}
use Rattle.row_out.proofs.Laws.{below_cons, cons_below, limited_ok, limited_past, limited_long, Held, out_ok}
use Rattle.row_out.proofs.RoundCount.{rounds_vars}
use Rattle.ack.specs.Scan.{Range}
use Rattle.ack_out.specs.Acks.{is_ranges, range_at, ranges_of, all_ranges, largest_of, block_numbers, block_bytes, counts_of, ack_type_of, ecn_words, ack_words, ack_out, head_of}
use Rattle.ack_out.proofs.Lists.{at, Kept, kept, blocks_of, stepped, steps}

-- ---- the blocks' numbers

pub steps_length : (l : List ℕ) (n : ℕ) → length (steps l n) ≡ n
steps_length l zero = refl
steps_length l (suc n) = ap suc (steps_length l n)

pub steps_below : (l : List ℕ) (n : ℕ) → Kept l → n < length l → below62 (steps l n) ≡ true
unfolding below62
steps_below l zero k h = refl
steps_below l (suc n) k h =
    let s = stepped l n k (omega arith) in
    cons_below (at l (suc n) - at l n - 1) (steps l n) (rw add-one at s.small) (steps_below l n k (omega arith))

pub vars_least : (xs : List ℕ) → length xs ≤ length (vars_bytes xs)
unfolding vars_bytes
vars_least [] = omega arith
vars_least (x ∷ xs) =
    let e : length (var_bytes x ++ vars_bytes xs) ≡ var_size x + length (vars_bytes xs) = simp (length-append, length_var) in
    omega (arith, vars_least xs, size_pos x)

pub ranges_length : (l : List ℕ) (n : ℕ) → length (ranges_of l n) ≡ n
unfolding ranges_of
ranges_length l zero = refl
ranges_length l (suc n) = ap suc (ranges_length l n)

-- what the list's rule says of its ranges
pub record Ranged (l : List ℕ) : Type 0 where
  pub count : length (all_ranges l) ≡ length l / 2
  pub largest : largest_of (all_ranges l) ≡ at l (length l - 1) - 1
  pub numbers : length (block_numbers (all_ranges l)) ≡ length l - 1
  pub below : below62 (block_numbers (all_ranges l)) ≡ true

pub ranged : (l : List ℕ) → Kept l → Ranged l
unfolding largest_of range_at
ranged l k =
    let n : ℕ = length l / 2 - 1 in
    let b = blocks_of l n k (omega arith) in
    let e : 2 * n + 1 ≡ length l - 1 = omega arith in
    record {
      count = ranges_length l (length l / 2);
      largest = ap largest_of b.ranged ∙ ap (λ (i : ℕ). at l i - 1) e;
      numbers = ap length b.numbers ∙ steps_length l (length l - 1);
      below = ap below62 b.numbers ∙ steps_below l (length l - 1) k (omega (arith, k.some));
    }

-- ---- the frame's bytes: the integers before the blocks, the blocks, the counts

numbers_of : (delay : ℕ) (rs : List Range) (ecn : Option (ℕ × (ℕ × ℕ))) → word_numbers (ack_words delay rs ecn) ≡ largest_of rs ∷ delay ∷ counts_of ecn
unfolding word_numbers ack_words ecn_words counts_of
numbers_of delay rs none = refl
numbers_of delay rs (some c) = refl

bytes_of : (delay : ℕ) (rs : List Range) (ecn : Option (ℕ × (ℕ × ℕ))) → rounds_in (block_bytes rs) ≡ length rs - 1
    → frame_bytes table (ack_type_of ecn) (ack_words delay rs ecn) ≡ vars_bytes (head_of delay rs ecn) ++ (block_bytes rs ++ vars_bytes (counts_of ecn))
unfolding frame_bytes table row_bytes field_bytes ack_words ecn_words counts_of ack_type_of vars_bytes
bytes_of delay rs none e = rw e (simp (append_assoc, append-nil))
bytes_of delay rs (some c) e = rw e (simp (append_assoc, append-nil))

-- ---- what is written, within the limits or 14

none_below : below62 [] ≡ true
unfolding below62
none_below = refl

pub no_counts : vars_out (counts_of none) [] ≡ ok []
unfolding vars_out counts_of vars_bytes
no_counts = limited_ok [] [] none_below (omega arith)

limited_no : (xs bs : List ℕ) (k : ℕ) → limited xs bs ≡ no k → limited xs bs ≡ no 14
unfolding limited in_frame
limited_no xs bs k = go (below62 xs) (leb (length bs) 65527)
  where
    go : (t u : Bool) → ◌≡◌ {A = Answer (List ℕ)} (if t then (if u then ok bs else no 14) else no 14) (no k)
        → ◌≡◌ {A = Answer (List ℕ)} (if t then (if u then ok bs else no 14) else no 14) (no 14)
    go true true h = let z : ◌≡◌ {A = ℕ} 0 1 = cc in absurd (omega arith)
    go true false h = refl
    go false u h = refl

-- the limits refuse with 14 alone
out_14 : (xs bs : List ℕ) (k : ℕ) → vars_out xs bs ≡ no k → k ≡ 14
unfolding vars_out
out_14 xs bs k e = let f = limited_no xs (vars_bytes xs ++ bs) k e in cc

-- a refusal of some of the integers refuses the whole
part_no : {k : ℕ} (xs given whole : List ℕ) → (below62 given ≡ true → below62 xs ≡ true) → length (vars_bytes xs) ≤ length whole → vars_out xs [] ≡ no k
    → limited given whole ≡ no k
part_no {k} xs given whole up l e = go (below62 given) (leb (length whole) 65527) refl refl
  where
    go : (t u : Bool) → below62 given ≡ t → leb (length whole) 65527 ≡ u → limited given whole ≡ no k
    go false u b d = let n = out_14 xs [] k e in rw n (limited_past given whole b)
    go true false b d = let n = out_14 xs [] k e in rw n (limited_long given whole (leb-false (length whole) 65527 d))
    go true true b d =
        let h : Held xs [] (length (vars_bytes xs)) = record { small = up b; short = omega (arith, leb-true (length whole) 65527 d); long = omega arith } in
        let f = out_ok xs [] _ h in
        let z : ◌≡◌ {A = ℕ} 0 1 = cc in
        absurd (omega arith)

module _ (delay : ℕ) (l : List ℕ) (ecn : Option (ℕ × (ℕ × ℕ))) where
  abbrev pub head : List ℕ
  head = head_of delay (all_ranges l) ecn

  abbrev pub counts : List ℕ
  counts = counts_of ecn

  abbrev pub blocks : List ℕ
  blocks = block_bytes (all_ranges l)

  abbrev pub whole : List ℕ
  whole = vars_bytes head ++ (blocks ++ vars_bytes counts)

  pub length_whole : length whole ≡ length (vars_bytes head) + length blocks + length (vars_bytes counts)
  length_whole = simp length-append (omega arith)

  abbrev pub given : List ℕ
  given = largest_of (all_ranges l) ∷ delay ∷ counts

  pub not_ranges : is_ranges l ≡ false → ack_out delay l ecn ≡ no 14
  unfolding ack_out
  not_ranges r = rw r

  module _ (r : is_ranges l ≡ true) where
    abbrev held : Ranged l
    held = ranged l (kept l r)

    pub rounds : rounds_in blocks ≡ length (all_ranges l) - 1
    rounds =
        let k = kept l r in
        let e : (length l - 1 - 1) / 2 ≡ length l / 2 - 1 = omega (arith, k.even, k.some) in
        rounds_vars _ held.below ∙ rw (held.numbers, held.count) e

    pub whole_is : frame_bytes table (ack_type_of ecn) (ack_words delay (all_ranges l) ecn) ≡ whole
    whole_is = bytes_of delay (all_ranges l) ecn rounds

    pub is_limited : ack_out delay l ecn ≡ limited given whole
    unfolding ack_out frame_out
    is_limited = rw (r, numbers_of delay (all_ranges l) ecn, whole_is)

    -- each number of the list has a byte or more
    many : length l + 3 ≤ length whole
    many =
        let a = vars_least head in
        let b = vars_least (block_numbers (all_ranges l)) in
        omega (arith, length_whole, held.numbers, (kept l r).some)

    pub few : length whole ≤ 65527 → length l ≤ 65527
    few h = omega (arith, many)

    pub many_no : 65527 < length l → ack_out delay l ecn ≡ no 14
    many_no h = is_limited ∙ limited_long given whole (omega (arith, many))

    type_small : ack_type_of ecn < 2 ^ 62
    unfolding ack_type_of
    type_small = go ecn
      where
        go : (e : Option (ℕ × (ℕ × ℕ))) → ack_type_of e < 2 ^ 62
        go none = omega arith
        go (some c) = omega arith

    -- what is given is below 2^62 where all integers are
    pub all_below : length l ≤ 65527 → below62 given ≡ true → (below62 head ≡ true) × (below62 counts ≡ true)
    all_below h b =
        let x = below_cons _ _ b in
        let y = below_cons _ _ x.1 in
        let n : length (all_ranges l) - 1 < 2 ^ 62 = omega (arith, held.count) in
        (cons_below _ _ type_small (cons_below _ _ x.0 (cons_below _ _ y.0 (cons_below _ _ n none_below))), y.1)

    given_below : below62 head ≡ true → below62 counts ≡ true → below62 given ≡ true
    given_below h k =
        let x = below_cons _ _ (below_cons _ _ h).1 in
        let y = below_cons _ _ x.1 in
        cons_below _ _ x.0 (cons_below _ _ y.0 k)

    pub head_no : {k : ℕ} → length l ≤ 65527 → vars_out head [] ≡ no k → ack_out delay l ecn ≡ no k
    head_no h e = is_limited ∙ part_no head given whole (λ b. (all_below h b).0) (omega (arith, length_whole)) e

    pub counts_no : {k : ℕ} → length l ≤ 65527 → vars_out counts [] ≡ no k → ack_out delay l ecn ≡ no k
    counts_no h e = is_limited ∙ part_no counts given whole (λ b. (all_below h b).1) (omega (arith, length_whole)) e

    module _ (n k : ℕ) (first : Held head [] n) (last : Held counts [] k) where
      pub length_all : length whole ≡ n + length blocks + k
      length_all = omega (arith, length_whole, first.long, last.long)

      pub long_no : 65527 < n + length blocks + k → ack_out delay l ecn ≡ no 14
      long_no h = is_limited ∙ limited_long given whole (omega (arith, length_all))

      pub all_ok : n + length blocks + k ≤ 65527 → ack_out delay l ecn ≡ ok whole
      all_ok h = is_limited ∙ limited_ok given whole (given_below first.small last.small) (omega (arith, length_all))

  -- no other refusal than 14
  pub only_14 : (k : ℕ) → ack_out delay l ecn ≡ no k → ack_out delay l ecn ≡ no 14
  only_14 k e = go (is_ranges l) refl
    where
      go : (t : Bool) → is_ranges l ≡ t → ack_out delay l ecn ≡ no 14
      go true r = is_limited r ∙ limited_no given whole k (sym (is_limited r) ∙ e)
      go false r = not_ranges r

-- ---- what a known size says

pub record Known (w : Answer (List ℕ)) (n : ℕ) : Type 0 where
  pub bytes : List ℕ
  pub is : w ≡ ok bytes
  pub long : length bytes ≡ n

module _ (r : Result ℕ Refusal) (w : Answer (List ℕ)) (e : answer_of r ≡ length_of w) where
  pub known : (n : ℕ) → r ≡ Ok n → Known w n
  unfolding answer_of length_of
  known n q = go w (rw q at e)
    where
      go : (v : Answer (List ℕ)) → ok n ≡ length_of v → Known v n
      go (no k) h = let z : ◌≡◌ {A = ℕ} 0 1 = cc in absurd (omega arith)
      go (ok bs) h = record { bytes = bs; is = refl; long = cc }

  pub unknown : (why : Refusal) → r ≡ Err why → w ≡ no (number_of why)
  unfolding answer_of length_of
  unknown why q = go w (rw q at e)
    where
      go : (v : Answer (List ℕ)) → no (number_of why) ≡ length_of v → v ≡ no (number_of why)
      go (no k) h = cc
      go (ok bs) h = let z : ◌≡◌ {A = ℕ} 0 1 = cc in absurd (omega arith)
