-- Laws of the limits, and of integers one after the other.
use Rattle.std.specs.Prelude.{if◌then◌else◌, Result, Ok, Err}
use mathlib.Core.Path.{◌≡◌, refl, sym, ap, ◌∙◌}
use mathlib.Core.List.{List, [], ◌∷◌, ◌++◌, append_assoc, append-nil}
use mathlib.Core.Bool.{Bool, true, false}
use Prim.Native.Nat.{ℕ, zero, suc, ◌+◌, ◌*◌, ◌≤◌, ◌<◌, ◌^◌}
use native.Mathlib.Numerals.{add-one}
use native.Mathlib.Omega.{arith}
use lib.ListN.{length, take, drop, get_or, length-append, take-append-drop}
use lib.Seq.{take-suc}
use lib.Dec.{ltb, leb}
use borrow.Author.Tests.{ltb-true, leb-true, leb-false, lt-ltb, le-leb, lt-leb}
use Rattle.coding.specs.Words.{Answer, no, ok}
use Rattle.coding.specs.Varint.{var_size, var_bytes, var_sized, var_put}
use Rattle.coding.specs.Writing.{length_of, Put}
use Rattle.coding.specs.Refusals.{number_of}
use Rattle.coding.specs.Said.{answer_of}
use Rattle.coding.specs.declared.refusal.Refusal.{Refusal}
use Rattle.coding.proofs.Laws.{length_var, size_le, in62_is, put_some}
use Rattle.coding.proofs.Writes.{So, so_put}
use Rattle.row_out.specs.Limits.{below62, in_frame, limited, vars_bytes, vars_out}

-- ---- each integer is at most 2^62 - 1

pub below_cons : (x : ℕ) (xs : List ℕ) → below62 (x ∷ xs) ≡ true → (x < 2 ^ 62) × (below62 xs ≡ true)
unfolding below62
below_cons x xs = go (ltb x (2 ^ 62)) refl
  where
    go : (t : Bool) → ltb x (2 ^ 62) ≡ t → (if t then below62 xs else false) ≡ true → (x < 2 ^ 62) × (below62 xs ≡ true)
    go true e h = (ltb-true _ _ e, h)
    go false e h = let z : ◌≡◌ {A = ℕ} 0 1 = cc in absurd (omega arith)

pub cons_below : (x : ℕ) (xs : List ℕ) → x < 2 ^ 62 → below62 xs ≡ true → below62 (x ∷ xs) ≡ true
unfolding below62
cons_below x xs h k = rw (lt-ltb _ _ h) k

pub below_at : (xs : List ℕ) (i : ℕ) → below62 xs ≡ true → i < length xs → get_or xs i 0 < 2 ^ 62
below_at [] i h k = absurd (omega arith)
below_at (x ∷ xs) zero h k = (below_cons x xs h).0
below_at (x ∷ xs) (suc i) h k = below_at xs i (below_cons x xs h).1 (omega arith)

-- and so up to one more
pub below_more : (xs : List ℕ) (i : ℕ) → i < length xs → below62 (take i xs) ≡ true → get_or xs i 0 < 2 ^ 62 → below62 (take (suc i) xs) ≡ true
unfolding below62
below_more [] i h b k = absurd (omega arith)
below_more (x ∷ xs) zero h b k = cons_below x [] k refl
below_more (x ∷ xs) (suc i) h b k =
    let c = below_cons x (take i xs) b in
    cons_below x (take (suc i) xs) c.0 (below_more xs i (omega arith) c.1 k)

-- one that is past it
pub below_not : (xs : List ℕ) (i : ℕ) → i < length xs → 2 ^ 62 ≤ get_or xs i 0 → below62 xs ≡ false
below_not xs i h k = go (below62 xs) refl
  where
    go : (t : Bool) → below62 xs ≡ t → t ≡ false
    go true e = absurd (omega (arith, below_at xs i e h))
    go false e = refl

-- ---- the bytes of integers, one after the other

pub vars_append : (xs ys : List ℕ) → vars_bytes (xs ++ ys) ≡ vars_bytes xs ++ vars_bytes ys
unfolding vars_bytes
vars_append [] ys = refl
vars_append (x ∷ xs) ys = rw (vars_append xs ys) (sym (append_assoc (var_bytes x) (vars_bytes xs) (vars_bytes ys)))

pub vars_more : (xs : List ℕ) (i : ℕ) → i < length xs → vars_bytes (take (suc i) xs) ≡ vars_bytes (take i xs) ++ var_bytes (get_or xs i 0)
unfolding vars_bytes
vars_more xs i h = rw (take-suc xs i 0, vars_append, append-nil)

-- those up to one are no more than all
pub vars_part : (xs : List ℕ) (i : ℕ) → length (vars_bytes (take i xs)) ≤ length (vars_bytes xs)
vars_part xs i =
    let e = ap length (vars_append (take i xs) (drop i xs)) in
    let f = rw (take-append-drop i xs, length-append (vars_bytes (take i xs)) (vars_bytes (drop i xs))) at e in
    omega (arith, f)

pub length_more : (xs : List ℕ) (i : ℕ) → i < length xs
    → length (vars_bytes (take (suc i) xs)) ≡ length (vars_bytes (take i xs)) + var_size (get_or xs i 0)
length_more xs i h = rw (vars_more xs i h, length-append, length_var)

-- one more is put behind those up to it
pub so_more : (xs : List ℕ) (i : ℕ) {x at r next : ℕ} {old mid new : List ℕ} → x ≡ get_or xs i 0 → below62 xs ≡ true → i < length xs
    → at + length (vars_bytes xs) ≤ length old → So old at (vars_bytes (take i xs)) r mid → Put (var_put x) mid r next new
    → So old at (vars_bytes (take (i + 1) xs)) next new
so_more xs i e b h room s p =
    let x = below_at xs i b h in
    let l : length (var_bytes (get_or xs i 0)) ≡ var_size (get_or xs i 0) = length_var (get_or xs i 0) in
    let m = length_more xs i h in
    rw (add-one, vars_more xs i h) (so_put s (omega (arith, l, m, vars_part xs (suc i))) (rw (e, put_some (get_or xs i 0) x) at p))

-- n integers take at most 8n bytes
pub vars_bound : (xs : List ℕ) → below62 xs ≡ true → length (vars_bytes xs) ≤ 8 * length xs
unfolding vars_bytes
vars_bound [] b = omega arith
vars_bound (x ∷ xs) b =
    let c = below_cons x xs b in
    let l : length (var_bytes x ++ vars_bytes xs) ≡ var_size x + length (vars_bytes xs) = simp (length-append, length_var) in
    omega (arith, size_le x c.0, vars_bound xs c.1)

-- ---- within the limits, or 14

module _ (xs bs : List ℕ) where
  pub limited_ok : below62 xs ≡ true → length bs ≤ 65527 → limited xs bs ≡ ok bs
  unfolding limited in_frame
  limited_ok b h = rw (b, le-leb _ _ h)

  pub limited_past : below62 xs ≡ false → limited xs bs ≡ no 14
  unfolding limited
  limited_past b = rw b

  pub limited_long : 65527 < length bs → limited xs bs ≡ no 14
  unfolding limited in_frame
  limited_long h = rw (lt-leb _ _ h) (go (below62 xs))
    where
      go : (t : Bool) → ◌≡◌ {A = Answer (List ℕ)} (if t then no 14 else no 14) (no 14)
      go true = refl
      go false = refl

-- what is within them is as it was
pub record Seen (xs bs cs : List ℕ) : Type 0 where
  pub small : below62 xs ≡ true
  pub short : length bs ≤ 65527
  pub same : bs ≡ cs

pub limited_seen : (xs bs cs : List ℕ) → limited xs bs ≡ ok cs → Seen xs bs cs
unfolding limited in_frame
limited_seen xs bs cs = go (below62 xs) (leb (length bs) 65527) refl refl
  where
    go : (t u : Bool) → below62 xs ≡ t → leb (length bs) 65527 ≡ u → (if t then (if u then ok bs else no 14) else no 14) ≡ ok cs → Seen xs bs cs
    go true true a b h = record { small = a; short = leb-true (length bs) 65527 b; same = cc }
    go true false a b h = let z : ◌≡◌ {A = ℕ} 0 1 = cc in absurd (omega arith)
    go false u a b h = let z : ◌≡◌ {A = ℕ} 0 1 = cc in absurd (omega arith)

-- integers and then bytes: within the limits, they are n bytes
pub record Held (xs bs : List ℕ) (n : ℕ) : Type 0 where
  pub small : below62 xs ≡ true
  pub short : n ≤ 65527
  pub long : length (vars_bytes xs) + length bs ≡ n

module _ (xs bs : List ℕ) where
  pub length_out : length (vars_bytes xs ++ bs) ≡ length (vars_bytes xs) + length bs
  length_out = length-append (vars_bytes xs) bs

  pub out_ok : (n : ℕ) → Held xs bs n → vars_out xs bs ≡ ok (vars_bytes xs ++ bs)
  unfolding vars_out
  out_ok n h = limited_ok xs (vars_bytes xs ++ bs) h.small (omega (arith, h, length_out))

  pub out_past : below62 xs ≡ false → vars_out xs bs ≡ no 14
  unfolding vars_out
  out_past h = limited_past xs (vars_bytes xs ++ bs) h

  pub out_long : 65527 < length (vars_bytes xs) + length bs → vars_out xs bs ≡ no 14
  unfolding vars_out
  out_long h = limited_long xs (vars_bytes xs ++ bs) (omega (arith, length_out))

pub out_seen : (xs bs cs : List ℕ) → vars_out xs bs ≡ ok cs → Seen xs (vars_bytes xs ++ bs) cs
unfolding vars_out
out_seen xs bs cs e = limited_seen xs (vars_bytes xs ++ bs) cs e

-- bytes that are integers ys and then d, and say the integers xs: the same limits, where those of d, at most 65,527, agree
pub vals_same : (xs ys bs d : List ℕ) → bs ≡ vars_bytes ys ++ d → (length d ≤ 65527 → below62 xs ≡ below62 ys) → limited xs bs ≡ vars_out ys d
unfolding vars_out limited
vals_same xs ys bs d e h = rw e (go (leb (length (vars_bytes ys ++ d)) 65527) refl)
  where
    go : (t : Bool) → leb (length (vars_bytes ys ++ d)) 65527 ≡ t → limited xs (vars_bytes ys ++ d) ≡ limited ys (vars_bytes ys ++ d)
    go true i =
        let b = h (omega (arith, leb-true (length (vars_bytes ys ++ d)) 65527 i, length_out ys d)) in
        rw b
    go false i =
        let l = leb-false (length (vars_bytes ys ++ d)) 65527 i in
        limited_long xs (vars_bytes ys ++ d) l ∙ sym (limited_long ys (vars_bytes ys ++ d) l)

-- an integer that has no size is refused as an argument
pub sized_14 : (r : Result ℕ Refusal) (x : ℕ) (why : Refusal) → answer_of r ≡ var_sized x → r ≡ Err why → number_of why ≡ 14
unfolding answer_of var_sized
sized_14 r x why p q = in62_is x (number_of why) (var_size x) (sym (rw q at p))

-- what a known size says
module _ (r : Result ℕ Refusal) (xs bs : List ℕ) (e : answer_of r ≡ length_of (vars_out xs bs)) where
  abbrev all : List ℕ
  all = vars_bytes xs ++ bs

  pub size_held : (n : ℕ) → r ≡ Ok n → Held xs bs n
  unfolding answer_of length_of vars_out limited in_frame
  size_held n q = go (below62 xs) (leb (length all) 65527) refl refl (rw q at e)
    where
      go : (t u : Bool) → below62 xs ≡ t → leb (length all) 65527 ≡ u
          → ok n ≡ length_of (if t then (if u then ok all else no 14) else no 14) → Held xs bs n
      go true true a b h =
          let l : n ≡ length all = cc in
          let m = leb-true (length all) 65527 b in
          record { small = a; short = omega arith; long = omega (arith, length_out xs bs) }
      go true false a b h = let z : ◌≡◌ {A = ℕ} 0 1 = cc in absurd (omega arith)
      go false u a b h = let z : ◌≡◌ {A = ℕ} 0 1 = cc in absurd (omega arith)

  -- a refusal is 14, and so it is with more bytes after the integers
  pub size_14 : (why : Refusal) (cs : List ℕ) → r ≡ Err why → length bs ≤ length cs → (number_of why ≡ 14) × (vars_out xs cs ≡ no 14)
  unfolding answer_of length_of vars_out limited in_frame
  size_14 why cs q l = go (below62 xs) (leb (length all) 65527) refl refl (rw q at e)
    where
      go : (t u : Bool) → below62 xs ≡ t → leb (length all) 65527 ≡ u
          → no (number_of why) ≡ length_of (if t then (if u then ok all else no 14) else no 14) → (number_of why ≡ 14) × (vars_out xs cs ≡ no 14)
      go true true a b h = let z : ◌≡◌ {A = ℕ} 0 1 = cc in absurd (omega arith)
      go true false a b h =
          let k : number_of why ≡ 14 = cc in
          (k, out_long xs cs (omega (arith, leb-false (length all) 65527 b, length_out xs bs)))
      go false u a b h = let k : number_of why ≡ 14 = cc in (k, out_past xs cs a)

  -- the same by the refusal's number
  pub size_not : (why : Refusal) (cs : List ℕ) → r ≡ Err why → length bs ≤ length cs → vars_out xs cs ≡ no (number_of why)
  size_not why cs q l = let h = size_14 why cs q l in rw h.0 h.1
