-- A close is never longer than its max, and is refused for its max exactly where the fields beside the reason take more.
use Rattle.std.specs.Prelude.{if◌then◌else◌}
use mathlib.Core.Path.{◌≡◌, refl, sym, ◌∙◌}
use mathlib.Core.Logic.{◌↔◌}
use mathlib.Core.List.{List, [], ◌∷◌, ◌++◌}
use mathlib.Core.Bool.{Bool, true, false}
use Prim.Native.Nat.{ℕ, zero, suc, ◌+◌, ◌-◌, ◌*◌, ◌≤◌, ◌<◌, ◌^◌}
use native.Mathlib.Nat.{pow-le-pow_right}
use native.Mathlib.Omega.{arith}
use lib.ListN.{length, take, length-append, length-take}
use lib.Dec.{ltb}
use borrow.Author.Tests.{ltb-true, ltb-false, lt-ltb}
use Rattle.coding.specs.Words.{no, ok}
use Rattle.coding.specs.Varint.{var_tag, var_size}
use Rattle.coding.proofs.Laws.{fits_tag, length_var, size_le, size_pos}
use Rattle.frame.specs.Table.{table}
use Rattle.row_out.specs.Writing.{Word, word_number}
use Rattle.row_out.specs.Limits.{below62, vars_bytes}
use Rattle.row_out.specs.Bounds.{bound_of}
use Rattle.row_out.proofs.Laws.{cons_below, below_at, Held, out_ok, out_seen}
use Rattle.frame_out.specs.Closes.{Closing, connection, application, is_connection, fixed_fields, close_out}
use Rattle.frame_out.proofs.Cuts.{type_sizes, cut_short, cut_some, close_vals, close_vals_law, close_not, close_seen}

-- ---- a smaller integer is written in no more bytes

-- the tag is the least that holds x
tag_least : (x k : ℕ) → x < 2 ^ (8 * 2 ^ k - 2) → var_tag x ≤ k
unfolding var_tag
tag_least x zero h = rw (lt-ltb x (2 ^ 6) h) (omega arith)
tag_least x (suc zero) h = rw (lt-ltb x (2 ^ 14) h) (go (ltb x (2 ^ 6)))
  where
    go : (a : Bool) → (if a then 0 else 1) ≤ 1
    go true = omega arith
    go false = omega arith
tag_least x (suc (suc zero)) h = rw (lt-ltb x (2 ^ 30) h) (go (ltb x (2 ^ 6)) (ltb x (2 ^ 14)))
  where
    go : (a b : Bool) → (if a then 0 else if b then 1 else 2) ≤ 2
    go true b = omega arith
    go false true = omega arith
    go false false = omega arith
tag_least x (suc (suc (suc k))) h = go (ltb x (2 ^ 6)) (ltb x (2 ^ 14)) (ltb x (2 ^ 30))
  where
    go : (a b c : Bool) → (if a then 0 else if b then 1 else if c then 2 else 3) ≤ suc (suc (suc k))
    go true b c = omega arith
    go false true c = omega arith
    go false false true = omega arith
    go false false false = omega arith

size_least : (x k : ℕ) → x < 2 ^ (8 * 2 ^ k - 2) → var_size x ≤ 2 ^ k
unfolding var_size
size_least x k h = pow-le-pow_right {n = 2} (omega arith) (tag_least x k h)

size_mono : (x y : ℕ) → x ≤ y → y < 2 ^ 62 → var_size x ≤ var_size y
unfolding var_size
size_mono x y h k = size_least x (var_tag y) (omega (arith, fits_tag y k))

-- ---- the sum

-- it is what the integers of a close take, with the length of a reason of n bytes
pub fixed_bytes : (c : Closing) (n : ℕ) → fixed_fields c n ≡ length (vars_bytes (close_vals c n))
unfolding fixed_fields vars_bytes
fixed_bytes (connection code ty) n = simp (length-append, length_var) (omega (arith, type_sizes))
fixed_bytes (application code) n = simp (length-append, length_var) (omega (arith, type_sizes))

-- with integers below 2^62 it is no more than the bound of the close's row
pub bound_enough : (c : Closing) (n : ℕ) → below62 (close_vals c n) ≡ true → fixed_fields c n ≤ bound_of table (if is_connection c then 0x1c else 0x1d)
unfolding fixed_fields bound_of table
bound_enough (connection code ty) n b =
    let ys : List ℕ = 0x1c ∷ code ∷ word_number ty ∷ n ∷ [] in
    let a = size_le code (below_at ys 1 b (omega arith)) in
    let t = size_le (word_number ty) (below_at ys 2 b (omega arith)) in
    omega (arith, type_sizes, a, t, size_le n (below_at ys 3 b (omega arith)))
bound_enough (application code) n b =
    let ys : List ℕ = 0x1d ∷ code ∷ n ∷ [] in
    omega (arith, type_sizes, size_le code (below_at ys 1 b (omega arith)), size_le n (below_at ys 2 b (omega arith)))

-- a shorter reason's is no more
fixed_mono : (c : Closing) (m n : ℕ) → m ≤ n → n < 2 ^ 62 → fixed_fields c m ≤ fixed_fields c n
unfolding fixed_fields
fixed_mono (connection code ty) m n h k = omega (arith, size_mono m n h k)
fixed_mono (application code) m n h k = omega (arith, size_mono m n h k)

fixed_same : (c : Closing) (m n : ℕ) → var_size m ≡ var_size n → fixed_fields c m ≡ fixed_fields c n
unfolding fixed_fields
fixed_same (connection code ty) m n e = rw e refl
fixed_same (application code) m n e = rw e refl

last_small : (c : Closing) (n : ℕ) → below62 (close_vals c n) ≡ true → n < 2 ^ 62
last_small (connection code ty) n b = below_at (0x1c ∷ code ∷ word_number ty ∷ n ∷ []) 3 b (omega arith)
last_small (application code) n b = below_at (0x1d ∷ code ∷ n ∷ []) 2 b (omega arith)

one_below : (x : ℕ) → x < 2 ^ 62 → below62 (x ∷ []) ≡ true
unfolding below62
one_below x h = cons_below x [] h refl

vals_mono : (c : Closing) (m n : ℕ) → m ≤ n → below62 (close_vals c n) ≡ true → below62 (close_vals c m) ≡ true
vals_mono (connection code ty) m n h b =
    let ys : List ℕ = 0x1c ∷ code ∷ word_number ty ∷ n ∷ [] in
    let last = one_below m (omega (arith, below_at ys 3 b (omega arith))) in
    let two = cons_below (word_number ty) (m ∷ []) (below_at ys 2 b (omega arith)) last in
    let three = cons_below code (word_number ty ∷ m ∷ []) (below_at ys 1 b (omega arith)) two in
    cons_below 0x1c (code ∷ word_number ty ∷ m ∷ []) (omega arith) three
vals_mono (application code) m n h b =
    let ys : List ℕ = 0x1d ∷ code ∷ n ∷ [] in
    let last = one_below m (omega (arith, below_at ys 2 b (omega arith))) in
    cons_below 0x1d (code ∷ m ∷ []) (omega arith) (cons_below code (m ∷ []) (below_at ys 1 b (omega arith)) last)

-- ---- the closes

module _ (c : Closing) (reason : List ℕ) (max : ℕ) where
  abbrev fixed : ℕ
  fixed = fixed_fields c (length reason)

  -- what is left of the reason
  abbrev left : List ℕ
  left = take (max - fixed) reason

  left_long : length left ≤ length reason
  left_long = omega (arith, length-take (max - fixed) reason)

  -- what the frame takes
  close_long : (bs : List ℕ) → close_out c reason max ≡ ok bs → length bs ≡ fixed_fields c (length left) + length left
  close_long bs e =
      let k = close_seen c reason max bs e in
      let s = out_seen (close_vals c (length left)) left bs (sym (close_vals_law c left) ∙ k.frame) in
      rw (← s.same, length-append, ← fixed_bytes c (length left)) refl

  -- it is never longer than max
  pub close_room : (bs : List ℕ) → close_out c reason max ≡ ok bs → length bs ≤ max
  close_room bs e =
      let k = close_seen c reason max bs e in
      let m = fixed_mono c (length left) (length reason) left_long k.small in
      omega (arith, close_long bs e, k.fits, m, length-take (max - fixed) reason)

  -- and where the reason is cut it is max, unless the length of what is left takes fewer bytes than the whole one's
  pub close_full : (bs : List ℕ) → close_out c reason max ≡ ok bs → max ≤ fixed + length reason → var_size (max - fixed) ≡ var_size (length reason) → length bs ≡ max
  close_full bs e cut same =
      let l : length left ≡ max - fixed = simp length-take (omega arith) in
      let f = fixed_same c (length left) (length reason) (rw l same) in
      omega (arith, close_long bs e, (close_seen c reason max bs e).fits, l, f)

  -- where the integers are below 2^62 and the frame has at most 65,527 bytes, it is refused exactly when max is below the sum
  module _ (small : below62 (close_vals c (length reason)) ≡ true) (short : fixed_fields c (length left) + length left ≤ 65527) where
    reason_small : length reason < 2 ^ 62
    reason_small = last_small c (length reason) small

    written : fixed ≤ max → close_out c reason max ≡ ok (vars_bytes (close_vals c (length left)) ++ left)
    unfolding close_out
    written h =
        let b = vals_mono c (length left) (length reason) left_long small in
        let held : Held (close_vals c (length left)) left (fixed_fields c (length left) + length left)
        = record { small = b; short = short; long = rw (fixed_bytes c (length left)) refl } in
        rw (cut_some fixed max reason reason_small h) (close_vals_law c left ∙ out_ok (close_vals c (length left)) left _ held)

    pub close_exactly : (close_out c reason max ≡ no 14) ↔ (max < fixed)
    close_exactly = (go (ltb max fixed) refl, λ h. close_not reason max c (cut_short fixed max reason reason_small h))
      where
        go : (t : Bool) → ltb max fixed ≡ t → close_out c reason max ≡ no 14 → max < fixed
        go true a e = ltb-true max fixed a
        go false a e =
            let w = written (ltb-false max fixed a) in
            let z : ◌≡◌ {A = ℕ} 0 1 = cc in
            absurd (omega arith)

-- ---- than before: document 01 took two bytes off for the transport's error code, as the Rust does

abbrev former_fields : Word → ℕ → ℕ
former_fields ty n = 3 + var_size (word_number ty) + var_size n

pub code_counted : (code : ℕ) (ty : Word) (n : ℕ) → fixed_fields (connection code ty) n + 2 ≡ former_fields ty n + var_size code
unfolding fixed_fields
code_counted code ty n = omega arith

-- with a code below 64 one byte more is kept of a reason that was cut
pub one_byte_more : (code : ℕ) (ty : Word) (reason : List ℕ) (max : ℕ) → code < 64
    → former_fields ty (length reason) ≤ max → max - former_fields ty (length reason) < length reason
    → length (take (max - fixed_fields (connection code ty) (length reason)) reason) ≡ length (take (max - former_fields ty (length reason)) reason) + 1
one_byte_more code ty reason max h fits cut =
    simp length-take (omega (arith, code_counted code ty (length reason), size_least code 0 h, size_pos code))
