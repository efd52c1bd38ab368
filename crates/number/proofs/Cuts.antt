-- The cases of a cut, what it says of its number, and its bytes read back.
use Prim.Native.Nat.{ℕ, ◌-◌, ◌*◌, ◌/◌, ◌%◌, ◌^◌, ◌≤◌, ◌<◌}
use mathlib.Core.Path.{◌≡◌, refl, sym, ap, ◌∙◌}
use mathlib.Core.Bool.{Bool, true, false}
use mathlib.Core.List.{List, [], ◌++◌}
use mathlib.Core.Logic.{⊎_elim}
use native.Mathlib.Nat.{mod-eq_of_lt, mod-lt}
use native.Mathlib.Omega.{arith}
use lib.ListN.{length, take, length-take}
use lib.Seq.{take_at}
use lib.Dec.{eqb}
use borrow.Author.Tests.{lt-ltb, le-ltb, eq-eqb, ne_eqb, eqb-true, eqb-false}
use Rattle.coding.specs.Words.{no, ok}
use Rattle.coding.specs.Bytes.{be, bytes_be}
use Rattle.coding.specs.Writing.{Put}
use Rattle.coding.proofs.Laws.{length_bytes_be, pow256, Octets, octets_take, be_below}
use Rattle.coding.proofs.Back.{be_bytes}
use Rattle.shared.specs.declared.kinds.CutNumber.{CutNumber}
use Rattle.number.specs.Cutting.{cut, window_of, is_cut, bytes_for, cut_to, cut_made, cut_bytes, cut_out, cut_put, first_cut, cut_read}
use Rattle.number.proofs.Firsts.{be_shorter}
use Rattle.std.specs.Prelude.{Some}
use Rattle.number.specs.Said.{fitting}
use Rattle.number.proofs.Windows.{fitting_is, le?, bytes_power, Window, window_made, Fit, bytes_fit, cut_rule}

-- ---- the cases of a cut

module _ (n acked : ℕ) where
  pub made_high : 2 ^ 62 - 1 < n → no 14 ≡ cut_made n acked
  unfolding cut_made
  made_high p = simp (lt-ltb _ _ p)

  pub made_below : n ≤ 2 ^ 62 - 1 → n < acked → no 14 ≡ cut_made n acked
  unfolding cut_made
  made_below p q = simp (le-ltb _ _ p, lt-ltb _ _ q)

  module _ (top : n ≤ 2 ^ 62 - 1) (down : acked ≤ n) (k : ℕ) (e : k ≡ bytes_for (2 * (n - acked))) where
    pub made_far : k ≡ 0 → no 16 ≡ cut_made n acked
    unfolding cut_made cut_to
    made_far z = simp (le-ltb _ _ top, le-ltb _ _ down, ← e, eq-eqb _ 0 z)

    pub made_cut : (k ≡ 0 → ⊥) → ok (cut k (n % window_of k)) ≡ cut_made n acked
    unfolding cut_made cut_to
    made_cut z = simp (le-ltb _ _ top, le-ltb _ _ down, ← e, ne_eqb _ 0 z)

-- the window of a length that was found
pub found_window : (n acked k : ℕ) → Some k ≡ fitting (bytes_for (2 * (n - acked))) → Window k
found_window n acked k e =
    let is = fitting_is k (bytes_for (2 * (n - acked))) e in
    let f = bytes_fit (2 * (n - acked)) (λ y. is.1 (is.0 ∙ y)) in
    rw is.0 (window_made _ f.from f.high)

-- what a cut that is not refused says of its number
pub record CutIs (n acked : ℕ) (c : CutNumber) : Type 0 where
  pub top : n ≤ 2 ^ 62 - 1
  pub down : acked ≤ n
  pub fit : Fit 1 c.0 (2 * (n - acked))
  pub value : c.1 ≡ n % window_of c.0

pub cut_is : (n acked : ℕ) (c : CutNumber) → cut_made n acked ≡ ok c → CutIs n acked c
cut_is n acked c e =
    ⊎_elim
    (λ p. ⊎_elim (λ q. made p q (eqb k 0) refl) (λ q. refused (made_below n acked p q ∙ e)) (le? acked n))
    (λ p. refused (made_high n acked p ∙ e))
    (le? n (2 ^ 62 - 1))
  where
    k : ℕ
    k = bytes_for (2 * (n - acked))

    refused : {w : ℕ} → no w ≡ ok c → CutIs n acked c
    refused r = let z : ◌≡◌ {A = ℕ} 0 1 = cc in absurd (omega arith)

    made : n ≤ 2 ^ 62 - 1 → acked ≤ n → (b : Bool) → eqb k 0 ≡ b → CutIs n acked c
    made p q true z = refused (made_far n acked p q k refl (eqb-true k 0 z) ∙ e)
    made p q false z =
        let s : ok (cut k (n % window_of k)) ≡ ok c = made_cut n acked p q k refl (eqb-false k 0 z) ∙ e in
        let i : cut k (n % window_of k) ≡ c = cc in
        rw (← i) (record { top = p; down = q; fit = bytes_fit (2 * (n - acked)) (eqb-false k 0 z); value = refl })

-- it keeps the rule of a cut number
pub cut_kept : {n acked : ℕ} {c : CutNumber} → CutIs n acked c → is_cut c ≡ true
unfolding is_cut
cut_kept {n} {acked} {c} i =
    let w = window_made c.0 i.fit.from i.fit.high in
    let p : n % window_of c.0 < window_of c.0 = mod-lt n (omega (arith, w)) in
    let v : c.1 < window_of c.0 = rw i.value p in
    lt-ltb _ _ v

-- ---- inside and outside the rule

module _ (c : CutNumber) where
  module _ (e : is_cut c ≡ true) where
    pub out_in : cut_out c ≡ ok (cut_bytes c)
    unfolding cut_out
    out_in = rw e

    pub put_in : cut_put c ≡ cut_bytes c
    unfolding cut_put
    put_in = rw e

  module _ (e : is_cut c ≡ false) where
    pub out_out : cut_out c ≡ no 14
    unfolding cut_out
    out_out = rw e

    pub put_out : cut_put c ≡ []
    unfolding cut_put
    put_out = rw e

-- ---- bytes

module _ (k : ℕ) (bs : List ℕ) where
  pub read_few : k < 1 → no 14 ≡ cut_read k bs
  unfolding cut_read
  read_few p = simp (lt-ltb _ _ p)

  pub read_many : 1 ≤ k → 4 < k → no 14 ≡ cut_read k bs
  unfolding cut_read
  read_many p q = simp (le-ltb _ _ p, lt-ltb _ _ q)

  pub read_some : 1 ≤ k → k ≤ 4 → ok (first_cut k bs) ≡ cut_read k bs
  unfolding cut_read
  read_some p q = simp (le-ltb _ _ p, le-ltb _ _ q)

-- a put of as many bytes as it has
pub put_length : (c : CutNumber) {n : ℕ} {old new : List ℕ} {at next : ℕ} → is_cut c ≡ true → c.0 ≡ n → Put (bytes_be n c.1) old at next new
    → Put (cut_put c) old at next new
put_length c i e p = rw (put_in c i, e) p

-- of a word's four bytes
pub read_word : (k word : ℕ) {v : ℕ} → 1 ≤ k → k ≤ 4 → word < 2 ^ 32 → v ≡ word / 256 ^ (4 - k) → ok (cut k v) ≡ cut_read k (bytes_be 4 word)
read_word k word p q h e = ap (λ (x : ℕ). ok (cut k x)) (e ∙ sym (be_shorter 4 k word q h)) ∙ read_some k (bytes_be 4 word) p q

-- what is written of a cut number is read back
pub first_back : (c : CutNumber) (q : List ℕ) → is_cut c ≡ true → first_cut c.0 (cut_bytes c ++ q) ≡ c
first_back c q e =
    let r = cut_rule c e in
    let t : take c.0 (cut_bytes c ++ q) ≡ cut_bytes c = take_at (cut_bytes c) q c.0 (length_bytes_be c.0 c.1) in
    let w : window_of c.0 ≡ 256 ^ c.0 = r.window.is ∙ bytes_power c.0 in
    let v : c.1 % 256 ^ c.0 ≡ c.1 = mod-eq_of_lt (rw w at r.value) in
    let b : be 0 (cut_bytes c) ≡ c.1 = be_bytes c.0 0 c.1 ∙ rw v (omega arith) in
    rw (t, b)

pub cut_back : (c : CutNumber) (q : List ℕ) → is_cut c ≡ true → cut_read c.0 (cut_put c ++ q) ≡ ok c
cut_back c q e =
    let w = (cut_rule c e).window in
    sym (read_some c.0 (cut_put c ++ q) w.low w.high) ∙ rw (put_in c e) (ap ok (first_back c q e))

-- and what is read of bytes keeps the rule
pub read_rule : (k : ℕ) (bs : List ℕ) (c : CutNumber) → Octets bs → cut_read k bs ≡ ok c → is_cut c ≡ true
unfolding is_cut
read_rule k bs c o e =
    ⊎_elim
    (λ p. ⊎_elim (λ q. some p q) (λ q. refused (read_many k bs p q ∙ e)) (le? k 4))
    (λ p. refused (read_few k bs p ∙ e))
    (le? 1 k)
  where
    refused : {w : ℕ} → no w ≡ ok c → is_cut c ≡ true
    refused r = let z : ◌≡◌ {A = ℕ} 0 1 = cc in absurd (omega arith)

    some : 1 ≤ k → k ≤ 4 → is_cut c ≡ true
    some p q =
        let t : List ℕ = take k bs in
        let s : ok (cut k (be 0 t)) ≡ ok c = read_some k bs p q ∙ e in
        let i : cut k (be 0 t) ≡ c = cc in
        let b : be 0 t < 1 * 256 ^ length t = be_below t 0 1 (octets_take k bs o) (omega arith) in
        let l : length t ≤ k = simp length-take (omega arith) in
        let w : window_of k ≡ 256 ^ k = (window_made k p q).is ∙ bytes_power k in
        let v : be 0 t < window_of k = omega (arith, b, w, pow256 (length t) k l) in
        rw (← i) (lt-ltb _ _ v)
