-- Laws of this crate's definitions.
use Rattle.std.specs.Prelude.{if◌then◌else◌, Result, Ok, Err}
use mathlib.Core.Path.{◌≡◌, refl, ap}
use mathlib.Core.List.{List, [], ◌∷◌}
use mathlib.Core.Bool.{Bool, true, false}
use Prim.Native.Nat.{ℕ, zero, suc, ◌+◌, ◌-◌, ◌≤◌, ◌<◌}
use native.Mathlib.Nat.{add-zero, not-suc-le-zero}
use native.Mathlib.Numerals.{add-one}
use native.Mathlib.Omega.{arith}
use lib.ListN.{length, drop, get_or, set, length-take}
use lib.Seq.{drop-cons}
use Rattle.std.proofs.lemmas.List.{append-nil, take-append-drop}
use lib.Dec.{leb}
use Rattle.coding.specs.Words.{cut, and_then}
use Rattle.coding.specs.Bytes.{splice}
use Rattle.coding.specs.Reading.{fixed_at}
use Rattle.coding.specs.Said.{found_by, Reads}
use Rattle.coding.specs.declared.reader.Reader.{Reader}
use Rattle.coding.specs.declared.Place.{Place}
use Rattle.coding.specs.declared.refusal.UnexpectedEnd.{UnexpectedEnd}
use Rattle.text.specs.Puts.{puts, put_one}
use Rattle.text.proofs.Puts.{puts_more}
use Rattle.std.specs.Result.{result_unwrap_or}
use Rattle.cases.specs.Records.{sized_at, nowhere, part_after, Counts, words_from}
use Rattle.cases.specs.Lines.{and_num, and_nums}

-- ---- parts of a record, one after the other

module _ (left : ℕ) (old new : Reader) (r : Result Place UnexpectedEnd) (e : found_by (λ (p : Place). p) r new.at ≡ sized_at old.bytes.now old.at) where
  pub after_more : new.bytes ≡ old.bytes → (p : Place) → 0 < left → r ≡ Ok p → part_after left old.bytes.now old.at ≡ part_after (left - 1) new.bytes.now new.at
  unfolding found_by part_after and_then
  after_more same p = go left
    where
      go : (k : ℕ) → 0 < k → r ≡ Ok p → part_after k old.bytes.now old.at ≡ part_after (k - 1) new.bytes.now new.at
      go zero h q = absurd (not-suc-le-zero h)
      go (suc k) h q =
          let d : suc k - 1 ≡ k = omega arith in
          rw (← e, q, d, same)

  pub after_cut : (end : UnexpectedEnd) → 0 < left → r ≡ Err end → part_after left old.bytes.now old.at ≡ cut
  unfolding found_by part_after and_then
  after_cut end = go left
    where
      go : (k : ℕ) → 0 < k → r ≡ Err end → part_after k old.bytes.now old.at ≡ cut
      go zero h q = absurd (not-suc-le-zero h)
      go (suc k) h q = rw (← e, q)

-- what a read of a part found, and the empty part where there is none
pub found_part : (r : Result Place UnexpectedEnd) (next : ℕ) → result_unwrap_or r nowhere ≡ and_then (found_by (λ (p : Place). p) r next) nowhere (λ p n. p)
unfolding and_then found_by
found_part (Ok p) next = refl
found_part (Err end) next = refl

-- ---- numbers of 4 bytes, one after the other

module _ (most n : ℕ) (list : List ℕ) (old new : Reader) (r : Result ℕ UnexpectedEnd) (e : Reads (λ (x : ℕ). x) (fixed_at 4 old.bytes.now old.at) old r new) where
  pub words_more : (x : ℕ) → n < most → r ≡ Ok x
      → words_from (most - n) old.bytes.now old.at (n, list) ≡ words_from (most - (n + 1)) new.bytes.now new.at (n + 1, set list n x)
  unfolding found_by words_from and_then
  words_more x h q =
      let d : most - n ≡ suc (most - (n + 1)) = omega arith in
      rw (d, ← e.finds, q, e.bytes)

  pub words_cut : (end : UnexpectedEnd) → n < most → r ≡ Err end → words_from (most - n) old.bytes.now old.at (n, list) ≡ (n, list)
  unfolding found_by words_from and_then
  words_cut end h q =
      let d : most - n ≡ suc (most - (n + 1)) = omega arith in
      rw (d, ← e.finds, q)

pub words_start : (most : ℕ) (s : List ℕ) (o : ℕ × List ℕ) → words_from most s 0 o ≡ words_from (most - 0) s 0 o
words_start most s o =
    let d : most - 0 ≡ most = omega arith in
    rw d refl

pub words_none : (left : ℕ) (s : List ℕ) (at : ℕ) (o : ℕ × List ℕ) → left ≡ 0 → words_from left s at o ≡ o
unfolding words_from
words_none left s at o e = rw e

-- ---- a count of a list's first elements

pub counts : (n : ℕ) (l : List ℕ) → n ≤ length l → Counts n l
counts n l h = (h, simp length-take (omega arith))

-- ---- lines

-- one number more
pub nums_more : (ns : List ℕ) (i : ℕ) (o : ℕ × List ℕ) → i < length ns
    → puts (and_nums (drop i ns)) o ≡ puts (and_nums (drop (i + 1) ns)) (puts (and_num (get_or ns i 0)) o)
unfolding and_nums
nums_more ns i o h = rw (add-one, drop-cons ns i 0 h) (puts_more (and_num (get_or ns i 0)) (and_nums (drop (suc i) ns)) o)

-- a piece of no characters
splice_none : (l : List ℕ) (at : ℕ) → splice l at [] ≡ l
unfolding splice
splice_none l at = simp (add-zero, append-nil, take-append-drop)

pub no_piece : (ys : List (List ℕ)) (o : ℕ × List ℕ) → puts ([] ∷ ys) o ≡ puts ys o
unfolding puts put_one
no_piece ys (at, old) = ap (puts ys) (go (leb (at + 0) (length old)))
  where
    go : (t : Bool) → ◌≡◌ {A = ℕ × List ℕ} (if t then (at + 0, splice old at []) else (at, old)) (at, old)
    go true = rw (add-zero, splice_none)
    go false = refl
