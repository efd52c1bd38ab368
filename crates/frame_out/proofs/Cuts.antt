-- The cases of a close: what max leaves of the reason, which arguments are refused, and its type.
use Rattle.std.specs.Prelude.{if◌then◌else◌, Result, Ok, Err}
use mathlib.Core.Path.{◌≡◌, refl, ap, ◌∙◌}
use mathlib.Core.List.{List, [], ◌∷◌, ◌++◌}
use mathlib.Core.Bool.{Bool, true, false}
use Prim.Native.Nat.{ℕ, zero, suc, ◌+◌, ◌-◌, ◌≤◌, ◌<◌, ◌^◌}
use native.Mathlib.Omega.{arith}
use lib.ListN.{length, take, set, get_or, length-take, length-append}
use lib.Dec.{ltb, leb}
use borrow.Author.Tests.{ltb-true, leb-true, lt-ltb, le-ltb, le-leb, lt-leb}
use Rattle.coding.specs.Words.{Answer, no, ok}
use Rattle.coding.specs.Refusals.{number_of}
use Rattle.coding.specs.Said.{answer_of}
use Rattle.coding.specs.Writing.{length_of}
use Rattle.coding.specs.Varint.{var_tag, var_size}
use Rattle.coding.proofs.Laws.{length_var}
use Rattle.coding.specs.declared.refusal.Refusal.{Refusal}
use Rattle.frame.specs.Table.{table}
use Rattle.row_out.specs.Writing.{Word, number, raw, word_number}
use Rattle.row_out.specs.Limits.{below62, frame_out, vars_bytes, vars_out}
use Rattle.row_out.proofs.Laws.{below_not, vars_bound, Held, out_ok, out_past, size_not}
use Rattle.frame_out.specs.Closes.{Closing, connection, application, is_connection, fixed_fields, reason_cut, close_with, close_out, cut_with, cut_out}
use Rattle.frame_out.proofs.Vals.{connection_vals, application_vals}

-- ---- what is left of the reason

take_again : (k : ℕ) (l : List ℕ) → take (length (take k l)) l ≡ take k l
take_again zero l = refl
take_again (suc k) [] = refl
take_again (suc k) (x ∷ l) = ap (λ (r : List ℕ). x ∷ r) (take_again k l)

module _ (fixed max : ℕ) (reason : List ℕ) where
  pub cut_past : 2 ^ 62 ≤ length reason → reason_cut fixed max reason ≡ no 14
  unfolding reason_cut
  cut_past h = rw (le-ltb (length reason) (2 ^ 62) h)

  module _ (small : length reason < 2 ^ 62) where
    pub cut_short : max < fixed → reason_cut fixed max reason ≡ no 14
    unfolding reason_cut
    cut_short h = rw (lt-ltb (length reason) (2 ^ 62) small, lt-leb fixed max h)

    pub cut_some : fixed ≤ max → reason_cut fixed max reason ≡ ok (take (max - fixed) reason)
    unfolding reason_cut
    cut_some h = rw (lt-ltb (length reason) (2 ^ 62) small, le-leb fixed max h)

  -- what holds of each way holds of the cut
  cut_all : (P : Answer (List ℕ) → Type 0) → P (no 14) → ((k : ℕ) → P (ok (take k reason))) → P (reason_cut fixed max reason)
  unfolding reason_cut
  cut_all P z f = go (ltb (length reason) (2 ^ 62)) (leb fixed max)
    where
      go : (t u : Bool) → P (if t then (if u then ok (take (max - fixed) reason) else no 14) else no 14)
      go true true = f (max - fixed)
      go true false = z
      go false u = z

  -- what a known length says
  module _ (r : Result ℕ Refusal) (e : answer_of r ≡ length_of (reason_cut fixed max reason)) where
    pub cut_kept : (n : ℕ) → r ≡ Ok n → (reason_cut fixed max reason ≡ ok (take n reason)) × (n ≤ length reason)
    unfolding answer_of length_of
    cut_kept n q = cut_all (λ (w : Answer (List ℕ)). ok n ≡ length_of w → (w ≡ ok (take n reason)) × (n ≤ length reason)) none some (rw q at e)
      where
        none : ok n ≡ length_of (no 14) → (no 14 ≡ ok (take n reason)) × (n ≤ length reason)
        none h = let z : ◌≡◌ {A = ℕ} 0 1 = cc in absurd (omega arith)

        some : (k : ℕ) → ok n ≡ length_of (ok (take k reason)) → (ok (take k reason) ≡ ok (take n reason)) × (n ≤ length reason)
        some k h =
            let i : n ≡ length (take k reason) = cc in
            (rw i (rw (take_again k reason)), omega (arith, i, length-take k reason))

    pub cut_not : (why : Refusal) → r ≡ Err why → (reason_cut fixed max reason ≡ no 14) × (number_of why ≡ 14)
    unfolding answer_of length_of
    cut_not why q = cut_all (λ (w : Answer (List ℕ)). no (number_of why) ≡ length_of w → (w ≡ no 14) × (number_of why ≡ 14)) (λ h. (refl, cc)) some (rw q at e)
      where
        some : (k : ℕ) → no (number_of why) ≡ length_of (ok (take k reason)) → (ok (take k reason) ≡ no 14) × (number_of why ≡ 14)
        some k h = let z : ◌≡◌ {A = ℕ} 0 1 = cc in absurd (omega arith)

  -- what was cut
  pub cut_seen : (d : List ℕ) → reason_cut fixed max reason ≡ ok d → ((length reason < 2 ^ 62) × (fixed ≤ max)) × (d ≡ take (max - fixed) reason)
  unfolding reason_cut
  cut_seen d = go (ltb (length reason) (2 ^ 62)) (leb fixed max) refl refl
    where
      go : (t u : Bool) → ltb (length reason) (2 ^ 62) ≡ t → leb fixed max ≡ u → (if t then (if u then ok (take (max - fixed) reason) else no 14) else no 14) ≡ ok d
          → ((length reason < 2 ^ 62) × (fixed ≤ max)) × (d ≡ take (max - fixed) reason)
      go true true a b h = ((ltb-true (length reason) (2 ^ 62) a, leb-true fixed max b), cc)
      go true false a b h = let z : ◌≡◌ {A = ℕ} 0 1 = cc in absurd (omega arith)
      go false u a b h = let z : ◌≡◌ {A = ℕ} 0 1 = cc in absurd (omega arith)

-- ---- the closes, by their integers

abbrev pub close_vals : Closing → ℕ → List ℕ
close_vals (connection code ty) n = 0x1c ∷ code ∷ word_number ty ∷ n ∷ []
close_vals (application code) n = 0x1d ∷ code ∷ n ∷ []

pub close_vals_law : (c : Closing) (d : List ℕ) → close_with c (ok d) ≡ vars_out (close_vals c (length d)) d
unfolding close_with
close_vals_law (connection code ty) d = connection_vals code ty d
close_vals_law (application code) d = application_vals code d

pub close_not : (reason : List ℕ) (max : ℕ) (c : Closing) → reason_cut (fixed_fields c (length reason)) max reason ≡ no 14 → close_out c reason max ≡ no 14
unfolding close_out close_with
close_not reason max c e = rw e

module _ (reason : List ℕ) (max : ℕ) (c : Closing) where
  -- one past its limit is refused, whatever is left of the reason
  pub close_past : (i : ℕ) → ((n : ℕ) → (i < length (close_vals c n)) × (2 ^ 62 ≤ get_or (close_vals c n) i 0)) → close_out c reason max ≡ no 14
  unfolding close_out close_with
  close_past i h =
      cut_all (fixed_fields c (length reason)) max reason (λ (w : Answer (List ℕ)). close_with c w ≡ no 14) refl
      (λ k. let d = take k reason in
      let at = h (length d) in
      close_vals_law c d ∙ out_past (close_vals c (length d)) d (below_not (close_vals c (length d)) i at.0 at.1))

  -- what is written of a reason of which n bytes are kept
  pub close_kept : {fixed n : ℕ} → (reason_cut fixed max reason ≡ ok (take n reason)) × (n ≤ length reason) → fixed ≡ fixed_fields c (length reason)
      → close_out c reason max ≡ vars_out (close_vals c n) (take n reason)
  unfolding close_out
  close_kept {n = n} e sum =
      let long : length (take n reason) ≡ n = simp length-take (omega (arith, e.1)) in
      rw (← sum, e.0) (close_vals_law c (take n reason) ∙ rw long)

-- those before the length of the reason, which the sum counts by their sizes
abbrev pub close_head : Closing → List ℕ
close_head (connection code ty) = 0x1c ∷ code ∷ word_number ty ∷ []
close_head (application code) = 0x1d ∷ code ∷ []

pub type_sizes : (var_size 0x1c ≡ 1) × (var_size 0x1d ≡ 1)
unfolding var_size var_tag
type_sizes = (refl, refl)

head_bytes : (c : Closing) (n : ℕ) → fixed_fields c n ≡ length (vars_bytes (close_head c)) + var_size n
unfolding fixed_fields vars_bytes
head_bytes (connection code ty) n = simp (length-append, length_var) (omega (arith, type_sizes))
head_bytes (application code) n = simp (length-append, length_var) (omega (arith, type_sizes))

pub close_is_cut : (c : Closing) (reason : List ℕ) (max : ℕ) → close_out c reason max ≡ cut_out (close_head c) reason max
unfolding close_out cut_out close_with cut_with
close_is_cut c reason max = rw (← head_bytes c (length reason)) (go c (reason_cut (fixed_fields c (length reason)) max reason))
  where
    go : (c : Closing) (w : Answer (List ℕ)) → close_with c w ≡ cut_with (close_head c) w
    go (connection code ty) (no k) = refl
    go (application code) (no k) = refl
    go (connection code ty) (ok d) = connection_vals code ty d
    go (application code) (ok d) = application_vals code d

-- ---- integers, and a reason that is cut

below_not_on : (xs ys : List ℕ) → below62 xs ≡ false → below62 (xs ++ ys) ≡ false
unfolding below62
below_not_on [] ys h = let z : ◌≡◌ {A = ℕ} 0 1 = cc in absurd (omega arith)
below_not_on (x ∷ xs) ys h = go (ltb x (2 ^ 62)) (below_not_on xs ys) h
  where
    go : (t : Bool) → (below62 xs ≡ false → below62 (xs ++ ys) ≡ false) → (if t then below62 xs else false) ≡ false → (if t then below62 (xs ++ ys) else false) ≡ false
    go true more h = more h
    go false more h = refl

-- few integers that have no size are past their limit
pub few_not : (xs : List ℕ) (r : Result ℕ Refusal) (why : Refusal) → length xs ≤ 3 → answer_of r ≡ length_of (vars_out xs []) → r ≡ Err why
    → (below62 xs ≡ false) × (number_of why ≡ 14)
few_not xs r why h e q = go (below62 xs) refl (size_not r xs [] e why [] q (omega arith))
  where
    go : (t : Bool) → below62 xs ≡ t → vars_out xs [] ≡ no (number_of why) → (below62 xs ≡ false) × (number_of why ≡ 14)
    go true b n =
        let k : Held xs [] (length (vars_bytes xs)) = record { small = b; short = omega (arith, vars_bound xs b); long = omega arith } in
        let o = out_ok xs [] _ k in
        let z : ◌≡◌ {A = ℕ} 0 1 = cc in
        absurd (omega arith)
    go false b n = let o = out_past xs [] b in (b, cc)

pub sum_of : {xs : List ℕ} {n : ℕ} → Held xs [] n → n ≡ length (vars_bytes xs)
sum_of h = omega (arith, h.long)

module _ (head reason : List ℕ) (max : ℕ) where
  -- one past its limit is refused, whatever is left of the reason
  pub cut_out_past : below62 head ≡ false → cut_out head reason max ≡ no 14
  unfolding cut_out cut_with
  cut_out_past h =
      cut_all (length (vars_bytes head) + var_size (length reason)) max reason (λ (w : Answer (List ℕ)). cut_with head w ≡ no 14) refl
      (λ k. out_past (head ++ (length (take k reason) ∷ [])) (take k reason) (below_not_on head (length (take k reason) ∷ []) h))

  module _ {fixed : ℕ} (sum : fixed ≡ length (vars_bytes head)) where
    pub cut_out_not : reason_cut (fixed + var_size (length reason)) max reason ≡ no 14 → cut_out head reason max ≡ no 14
    unfolding cut_out cut_with
    cut_out_not e = rw (← sum, e)

    -- what is written of a reason of which n bytes are kept
    pub cut_out_kept : {n : ℕ} → (reason_cut (fixed + var_size (length reason)) max reason ≡ ok (take n reason)) × (n ≤ length reason)
        → cut_out head reason max ≡ vars_out (head ++ (n ∷ [])) (take n reason)
    unfolding cut_out cut_with
    cut_out_kept {n} e =
        let long : length (take n reason) ≡ n = simp length-take (omega (arith, e.1)) in
        rw (← sum, e.0, long)

-- the last of some integers is set
pub set_last : (xs : List ℕ) (i n : ℕ) → suc i ≡ length xs → set xs i n ≡ take i xs ++ (n ∷ [])
set_last [] i n h = absurd (omega arith)
set_last (x ∷ []) zero n h = refl
set_last (x ∷ y ∷ xs) zero n h = absurd (omega arith)
set_last (x ∷ xs) (suc i) n h = ap (λ (r : List ℕ). x ∷ r) (set_last xs i n (omega arith))

-- what was written is the frame of what is left of the reason
pub record Cut (c : Closing) (reason : List ℕ) (max : ℕ) (bs : List ℕ) : Type 0 where
  pub small : length reason < 2 ^ 62
  pub fits : fixed_fields c (length reason) ≤ max
  pub frame : close_with c (ok (take (max - fixed_fields c (length reason)) reason)) ≡ ok bs

pub close_seen : (c : Closing) (reason : List ℕ) (max : ℕ) (bs : List ℕ) → close_out c reason max ≡ ok bs → Cut c reason max bs
unfolding close_out close_with
close_seen c reason max bs = go (reason_cut (fixed_fields c (length reason)) max reason) refl
  where
    go : (w : Answer (List ℕ)) → reason_cut (fixed_fields c (length reason)) max reason ≡ w → close_with c w ≡ ok bs → Cut c reason max bs
    go (no k) e h = let z : ◌≡◌ {A = ℕ} 0 1 = cc in absurd (omega arith)
    go (ok d) e h =
        let s = cut_seen (fixed_fields c (length reason)) max reason d e in
        record { small = s.0.0; fits = s.0.1; frame = rw (← s.1) h }

-- whether it is the transport's tells the type that is written
abbrev close_words : Closing → List ℕ → List Word
close_words (connection code ty) d = number code ∷ ty ∷ raw d ∷ []
close_words (application code) d = number code ∷ raw d ∷ []

pub layer_type : (c : Closing) (d : List ℕ) → close_with c (ok d) ≡ frame_out table (if is_connection c then 0x1c else 0x1d) (close_words c d)
unfolding close_with
layer_type (connection code ty) d = refl
layer_type (application code) d = refl
