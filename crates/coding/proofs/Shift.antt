-- An integer is read in a part of a list as in the whole list: what stands before the part moves the place, and what stands behind it changes nothing.
use mathlib.Core.Path.{◌≡◌, refl, sym, ap, ◌∙◌}
use mathlib.Core.Bool.{Bool, true, false}
use mathlib.Core.List.{List, ◌++◌}
use Prim.Native.Nat.{ℕ, ◌+◌, ◌-◌, ◌%◌, ◌≤◌, ◌<◌}
use native.Mathlib.Nat.{add_assoc}
use native.Mathlib.Omega.{arith}
use lib.Dec.{leb}
use lib.ListN.{length, take, drop, length-append, length-drop, get_or-append}
use lib.Seq.{get_or-drop, drop-drop, drop-append-le, take-append-le}
use borrow.Author.Tests.{leb-true, leb-false}
use Rattle.coding.specs.Words.{Got, cut, got}
use Rattle.coding.specs.Bytes.{byte_at, be}
use Rattle.coding.specs.Varint.{var_len, var_at}
use Rattle.coding.proofs.Laws.{read_var, var_inside, var_none, var_short, var_some}

-- ---- what stands before it

-- what was read, k bytes further on
abbrev pub further : ℕ → Got ℕ → Got ℕ
further k cut = cut
further k (got v n) = got v (k + n)

pub further_got : (k : ℕ) (m : Got ℕ) (v n : ℕ) → further k m ≡ got v n → m ≡ got v (n - k)
further_got k cut v n e = let z : ◌≡◌ {A = ℕ} 0 1 = cc in absurd (omega arith)
further_got k (got w i) v n e =
    let a : w ≡ v = cc in
    let b : k + i ≡ n = cc in
    let c : i ≡ n - k = omega arith in
    rw (a, c)

module _ (s : List ℕ) (k at : ℕ) where
  abbrev m : ℕ
  m = var_len (byte_at s (k + at))

  size : length (drop k s) ≡ length s - k
  size = length-drop k s

  same : byte_at (drop k s) at ≡ byte_at s (k + at)
  same = get_or-drop k s at 0

  far : k + at + m ≡ k + (at + m)
  far = omega arith

  behind_none : length s ≤ k + at → var_at s (k + at) ≡ further k (var_at (drop k s) at)
  behind_none h = sym (var_none s (k + at) h) ∙ ap (further k) (var_none (drop k s) at (rw size (omega arith)))

  behind_short : k + at < length s → length s < k + at + m → var_at s (k + at) ≡ further k (var_at (drop k s) at)
  behind_short h l = sym (var_short s (k + at) m h refl l) ∙ ap (further k) (var_short (drop k s) at m (rw size (omega arith)) (rw same) (rw size (omega arith)))

  behind_some : k + at < length s → k + at + m ≤ length s → var_at s (k + at) ≡ further k (var_at (drop k s) at)
  behind_some h l =
      let v : ℕ = be (byte_at s (k + at) % 64) (take (m - 1) (drop (k + at + 1) s)) in
      let w : v ≡ be (byte_at (drop k s) at % 64) (take (m - 1) (drop (at + 1) (drop k s))) = rw (same, drop-drop, add_assoc) in
      sym (var_some s (k + at) m h refl v l refl) ∙ ap (got v) far ∙ ap (further k) (var_some (drop k s) at m (rw size (omega arith)) (rw same) v (rw size (omega arith)) w)

  pub var_behind : var_at s (k + at) ≡ further k (var_at (drop k s) at)
  var_behind = go (leb (length s) (k + at)) (leb (k + at + m) (length s)) refl refl
    where
      go : (t u : Bool) → leb (length s) (k + at) ≡ t → leb (k + at + m) (length s) ≡ u → var_at s (k + at) ≡ further k (var_at (drop k s) at)
      go true u e f = behind_none (leb-true _ _ e)
      go false false e f = behind_short (leb-false _ _ e) (leb-false _ _ f)
      go false true e f = behind_some (leb-false _ _ e) (leb-true _ _ f)

-- ---- what stands behind it

module _ (d q : List ℕ) (at v n : ℕ) where
  pub var_before : var_at d at ≡ got v n → var_at (d ++ q) at ≡ got v n
  var_before e =
      let r = read_var d at v n e in
      let m : ℕ = var_len (byte_at d at) in
      let all : length (d ++ q) ≡ length d + length q = length-append d q in
      let first : byte_at (d ++ q) at ≡ byte_at d at = get_or-append d q 0 at r.begun in
      let a : drop (at + 1) (d ++ q) ≡ drop (at + 1) d ++ q = drop-append-le (at + 1) d q (omega (arith, r)) in
      let h : m - 1 ≤ length (drop (at + 1) d) = simp length-drop (omega (arith, r)) in
      let t : take (m - 1) (drop (at + 1) d ++ q) ≡ take (m - 1) (drop (at + 1) d) = take-append-le (m - 1) (drop (at + 1) d) q h in
      let f = var_some (d ++ q) at m (omega (arith, r)) (rw first) v (omega (arith, r)) (rw (first, a, t) r.value) in
      sym f ∙ ap (got v) (sym r.past)

  pub var_within : n ≤ length d → var_at (d ++ q) at ≡ got v n → var_at d at ≡ got v n
  var_within k e =
      let r = read_var (d ++ q) at v n e in
      let m : ℕ = var_len (byte_at (d ++ q) at) in
      let i = var_inside (d ++ q) at v n e in
      let b : at < length d = omega arith in
      let first : byte_at (d ++ q) at ≡ byte_at d at = get_or-append d q 0 at b in
      let a : drop (at + 1) (d ++ q) ≡ drop (at + 1) d ++ q = drop-append-le (at + 1) d q (omega arith) in
      let h : m - 1 ≤ length (drop (at + 1) d) = simp length-drop (omega (arith, r)) in
      let t : take (m - 1) (drop (at + 1) d ++ q) ≡ take (m - 1) (drop (at + 1) d) = take-append-le (m - 1) (drop (at + 1) d) q h in
      let f = var_some d at m b (rw first) v (omega (arith, r)) (rw (← first, ← t, ← a) r.value) in
      sym f ∙ ap (got v) (sym r.past)
