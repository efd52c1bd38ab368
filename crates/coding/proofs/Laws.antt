-- Laws of the definitions, for this crate's proofs and those above it.
use Rattle.std.specs.Prelude.{if◌then◌else◌}
use mathlib.Core.Path.{◌≡◌, refl, sym, ap, ◌∙◌}
use mathlib.Core.List.{List, [], ◌∷◌, ◌++◌, append_assoc}
use mathlib.Core.Bool.{Bool, true, false}
use Prim.Native.Nat.{ℕ, zero, suc, ◌+◌, ◌-◌, ◌*◌, ◌/◌, ◌%◌, ◌^◌, ◌≤◌, ◌<◌}
use native.Mathlib.Nat.{add_assoc, pow-succ', two-pow-succ, mul_assoc, pow-le-pow_right, one-le-pow, lt_of_lt_of_le, mul-le-mul_left}
use native.Mathlib.Omega.{arith}
use lib.ListN.{length, take, drop, get_or, length-append, length-take, length-drop}
use lib.Seq.{drop-drop, drop-append-add, take_at as take_to, get_or-drop}
use lib.Dec.{ltb, leb}
use borrow.Rule.Slice.PartMut.{put_mid}
use lib.Pow.{pow_pos}
use borrow.Author.Tests.{ltb-true, ltb-false, leb-true, le-leb, lt-leb, lt-ltb, le-ltb}
use Rattle.coding.specs.Words.{Got, cut, got, Answer, no, ok}
use Rattle.coding.specs.Bytes.{byte_at, be, bytes_be, splice}
use Rattle.coding.specs.Reading.{fixed_at, take_at}
use Rattle.coding.specs.Varint.{var_len, var_at, var_tag, var_size, var_bytes, in62, var_sized, var_out, var_put}
use Rattle.coding.specs.Places.{part_of, start_of}
use Rattle.coding.specs.Refusals.{number_of}
use Rattle.std.specs.Prelude.{Result, Ok, Err}
use Rattle.coding.specs.Said.{answer_of, found_by, Reads}
use Rattle.coding.specs.declared.reader.Reader.{Reader}
use Rattle.coding.specs.declared.Place.{Place}
use Rattle.coding.specs.declared.refusal.Refusal.{Refusal}

-- ---- bytes

pub pow256 : (n k : ℕ) → n ≤ k → 256 ^ n ≤ 256 ^ k
pow256 n k h = pow-le-pow_right (omega arith) h

pub length_bytes_be : (n x : ℕ) → length (bytes_be n x) ≡ n
unfolding bytes_be
length_bytes_be zero x = refl
length_bytes_be (suc n) x = ap suc (length_bytes_be n x)

-- each element is a byte, as it is of a slice of bytes
abbrev pub Octets : List ℕ → Type 0
Octets s = (i : ℕ) → get_or s i 0 < 256

pub octets_take : (n : ℕ) (s : List ℕ) → Octets s → Octets (take n s)
octets_take zero s h i = omega arith
octets_take (suc n) [] h i = h i
octets_take (suc n) (x ∷ s) h zero = h 0
octets_take (suc n) (x ∷ s) h (suc i) = octets_take n s (λ j. h (suc j)) i

pub octets_drop : (n : ℕ) (s : List ℕ) → Octets s → Octets (drop n s)
octets_drop n s h i = rw get_or-drop (h (n + i))

pub be_below : (bs : List ℕ) (v m : ℕ) → Octets bs → v < m → be v bs < m * 256 ^ length bs
unfolding be
be_below [] v m o h = omega arith
be_below (b ∷ bs) v m o h =
    let p : 256 ^ suc (length bs) ≡ 256 * 256 ^ length bs = pow-succ' 256 (length bs) in
    rw (p, ← mul_assoc m 256 (256 ^ length bs)) (be_below bs (v * 256 + b) (m * 256) (λ i. o (suc i)) (omega (arith, o 0)))

-- ---- a splice

pub length_splice : (l xs : List ℕ) (at : ℕ) → at + length xs ≤ length l → length (splice l at xs) ≡ length l
unfolding splice
length_splice l xs at h = simp (length-append, length-take, length-drop) (omega arith)

-- what stands after a copy into the part from `at` on
pub mid_splice : (l bs ys : List ℕ) (at k : ℕ) → ys ≡ bs → k ≡ length bs → put_mid at k l ys ≡ splice l at bs
unfolding splice
mid_splice l bs ys at k e h = rw (e, h) (simp (drop-drop, append_assoc))

-- what is spliced in after a splice
pub splice_splice : (l xs ys : List ℕ) (at : ℕ) → at + length xs + length ys ≤ length l
    → splice (splice l at xs) (at + length xs) ys ≡ splice l at (xs ++ ys)
unfolding splice
splice_splice l xs ys at h =
    let e : length (take at l ++ xs) ≡ at + length xs = simp (length-append, length-take) (omega arith) in
    let d : List ℕ = drop (at + length xs) l in
    let t : take (at + length xs) (take at l ++ xs ++ d) ≡ take at l ++ xs = take_to (take at l ++ xs) d (at + length xs) e in
    let r : drop (at + length xs + length ys) (take at l ++ xs ++ d) ≡ drop (length ys) d = rw e at (drop-append-add (take at l ++ xs) d (length ys)) in
    rw (t, r) (simp (drop-drop, length-append, append_assoc, add_assoc))

-- ---- the four lengths, k being the logarithm

-- the bits below the tag are the first byte's low six and those of the other bytes
pub low_bits : (k : ℕ) → k < 4 → 2 ^ (8 * 2 ^ k - 2) ≡ 64 * 256 ^ (2 ^ k - 1)
low_bits zero h = refl
low_bits (suc zero) h = refl
low_bits (suc (suc zero)) h = refl
low_bits (suc (suc (suc zero))) h = refl
low_bits (suc (suc (suc (suc k)))) h = absurd (omega arith)

-- the tag of x is below 4, and x fits below it
pub fits_tag : (x : ℕ) → x < 2 ^ 62 → (var_tag x < 4) × (x < 2 ^ (8 * 2 ^ var_tag x - 2))
unfolding var_tag
fits_tag x h = go (ltb x (2 ^ 6)) (ltb x (2 ^ 14)) (ltb x (2 ^ 30)) refl refl refl
  where
    go : (a b c : Bool) → ltb x (2 ^ 6) ≡ a → ltb x (2 ^ 14) ≡ b → ltb x (2 ^ 30) ≡ c
        → ((if a then 0 else if b then 1 else if c then 2 else 3) < 4) × (x < 2 ^ (8 * 2 ^ (if a then 0 else if b then 1 else if c then 2 else 3) - 2))
    go true b c p q r = (omega arith, ltb-true _ _ p)
    go false true c p q r = (omega arith, ltb-true _ _ q)
    go false false true p q r = (omega arith, ltb-true _ _ r)
    go false false false p q r = (omega arith, h)

-- a size tells its tag
pub size_tag : (x k : ℕ) → var_size x ≡ 2 ^ k → var_tag x ≡ k
unfolding var_size
size_tag x k e = go (var_tag x) k e
  where
    go : (i j : ℕ) → 2 ^ i ≡ 2 ^ j → i ≡ j
    go zero zero h = refl
    go zero (suc j) h = absurd (omega (arith, two-pow-succ j, pow_pos j))
    go (suc i) zero h = absurd (omega (arith, two-pow-succ i, pow_pos i))
    go (suc i) (suc j) h = ap suc (go i j (omega (arith, two-pow-succ i, two-pow-succ j)))

-- and a size that is not 1, 2 or 4 is 8
pub size_last : (x n : ℕ) → x < 2 ^ 62 → var_size x ≡ n → (n ≡ 1 → ⊥) → (n ≡ 2 → ⊥) → (n ≡ 4 → ⊥) → var_size x ≡ 8
unfolding var_size
size_last x n h = go (var_tag x) (fits_tag x h).0
  where
    go : (k : ℕ) → k < 4 → 2 ^ k ≡ n → (n ≡ 1 → ⊥) → (n ≡ 2 → ⊥) → (n ≡ 4 → ⊥) → 2 ^ k ≡ 8
    go zero l e a b c = absurd (a (sym e))
    go (suc zero) l e a b c = absurd (b (sym e))
    go (suc (suc zero)) l e a b c = absurd (c (sym e))
    go (suc (suc (suc zero))) l e a b c = refl
    go (suc (suc (suc (suc k)))) l e a b c = absurd (omega arith)

pub length_var : (x : ℕ) → length (var_bytes x) ≡ var_size x
unfolding var_bytes
length_var x = length_bytes_be _ _

-- a written integer has 1 to 8 bytes
pub size_le : (x : ℕ) → x < 2 ^ 62 → var_size x ≤ 8
unfolding var_size
size_le x h = pow-le-pow_right {n = 2} (omega arith) {j = 3} (omega (arith, fits_tag x h))

pub size_pos : (x : ℕ) → 0 < var_size x
unfolding var_size
size_pos x = one-le-pow (var_tag x) 2 (omega arith)

-- ---- below 2^62, or 14

pub in62_ok : {A : Type 0} (x : ℕ) (a b : A) → in62 x a ≡ ok b → (x < 2 ^ 62) × (a ≡ b)
unfolding in62
in62_ok {A} x a b = go (ltb x (2 ^ 62)) refl
  where
    go : (t : Bool) → ltb x (2 ^ 62) ≡ t → ◌≡◌ {A = Answer A} (if t then ok a else no 14) (ok b) → (x < 2 ^ 62) × (a ≡ b)
    go true e h = (ltb-true _ _ e, cc)
    go false e h = let z : ◌≡◌ {A = ℕ} 0 1 = cc in absurd (omega arith)

pub in62_no : {A : Type 0} (x k : ℕ) (a : A) → in62 x a ≡ no k → 2 ^ 62 ≤ x
unfolding in62
in62_no {A} x k a = go (ltb x (2 ^ 62)) refl
  where
    go : (t : Bool) → ltb x (2 ^ 62) ≡ t → ◌≡◌ {A = Answer A} (if t then ok a else no 14) (no k) → 2 ^ 62 ≤ x
    go true e h = let z : ◌≡◌ {A = ℕ} 0 1 = cc in absurd (omega arith)
    go false e h = ltb-false _ _ e

pub in62_is : {A : Type 0} (x k : ℕ) (a : A) → in62 x a ≡ no k → k ≡ 14
unfolding in62
in62_is {A} x k a = go (ltb x (2 ^ 62))
  where
    go : (t : Bool) → ◌≡◌ {A = Answer A} (if t then ok a else no 14) (no k) → k ≡ 14
    go true h = let z : ◌≡◌ {A = ℕ} 0 1 = cc in absurd (omega arith)
    go false h = cc

module _ (x : ℕ) where
  pub out_some : x < 2 ^ 62 → var_out x ≡ ok (var_bytes x)
  unfolding var_out in62
  out_some h = simp (lt-ltb _ _ h)

  pub out_none : 2 ^ 62 ≤ x → var_out x ≡ no 14
  unfolding var_out in62
  out_none h = simp (le-ltb _ _ h)

  pub put_some : x < 2 ^ 62 → var_put x ≡ var_bytes x
  unfolding var_put
  put_some h = simp (lt-ltb _ _ h)

  pub put_nothing : 2 ^ 62 ≤ x → var_put x ≡ []
  unfolding var_put
  put_nothing h = simp (le-ltb _ _ h)

-- what a known size says
pub sized_bytes : (r : Result ℕ Refusal) (x n : ℕ) → answer_of r ≡ var_sized x → r ≡ Ok n → (x < 2 ^ 62) × (var_size x ≡ n)
unfolding answer_of var_sized
sized_bytes r x n p q = in62_ok x (var_size x) n (sym (rw q at p))

pub sized_not : (r : Result ℕ Refusal) (x : ℕ) (why : Refusal) → answer_of r ≡ var_sized x → r ≡ Err why → 2 ^ 62 ≤ x
unfolding answer_of var_sized
sized_not r x why p q = in62_no x (number_of why) (var_size x) (sym (rw q at p))

pub sized_no : (r : Result ℕ Refusal) (x : ℕ) (why : Refusal) → answer_of r ≡ var_sized x → r ≡ Err why → var_out x ≡ no (number_of why)
unfolding answer_of var_sized
sized_no r x why p q = rw (in62_is x (number_of why) (var_size x) (sym (rw q at p))) (out_none x (in62_no x (number_of why) (var_size x) (sym (rw q at p))))

-- a read, by what it finds: a value, and the reader past it; or that the field is cut, and the reader as it was
module _ {A B E : Type 0} (f : A → B) (m : Got B) (old new : Reader) where
  pub reads_on : (x : A) (n : ℕ) → got (f x) n ≡ m → new.bytes ≡ old.bytes → new.at ≡ n → Reads {E = E} f m old (Ok x) new
  unfolding found_by
  reads_on x n e b p = record {
    finds = ap (got (f x)) p ∙ e;
    bytes = b;
    stays = λ h. let z : ◌≡◌ {A = ℕ} 1 0 = ap is_got (e ∙ h) in absurd (omega arith);
  }
    where
      is_got : Got B → ℕ
      is_got cut = 0
      is_got (got b n) = 1

  pub reads_cut : (e : E) → cut ≡ m → new ≡ old → Reads f m old (Err e) new
  unfolding found_by
  reads_cut e h p = record { finds = h; bytes = ap (λ (r : Reader). r.bytes) p; stays = λ k. ap (λ (r : Reader). r.at) p }

-- ---- a part

module _ (s : List ℕ) (p : Place) where
  pub part_in : (k : ℕ) → k ≡ p.len → p.start + p.len ≤ length s → take k (drop p.start s) ≡ part_of s p
  unfolding part_of
  part_in k e h = rw e (simp (le-leb _ _ h))

  pub start_in : p.start + p.len ≤ length s → p.start ≡ start_of s p
  unfolding start_of
  start_in h = simp (le-leb _ _ h)

  pub part_out : length s < p.start + p.len → [] ≡ part_of s p
  unfolding part_of
  part_out h = simp (lt-leb _ _ h)

  pub start_out : length s < p.start + p.len → 0 ≡ start_of s p
  unfolding start_of
  start_out h = simp (lt-leb _ _ h)

-- ---- the cases of a read

module _ (n : ℕ) (s : List ℕ) (at : ℕ) where
  pub fixed_none : length s < at + n → cut ≡ fixed_at n s at
  unfolding fixed_at
  fixed_none h = simp (lt-leb _ _ h)

  pub fixed_some : (v : ℕ) → at + n ≤ length s → v ≡ be 0 (take n (drop at s)) → got v (at + n) ≡ fixed_at n s at
  unfolding fixed_at
  fixed_some v h e = rw e (simp (le-leb _ _ h))

  pub take_none : length s < at + n → cut ≡ take_at n s at
  unfolding take_at
  take_none h = simp (lt-leb _ _ h)

  pub take_some : at + n ≤ length s → got (record { start = at; len = n }) (at + n) ≡ take_at n s at
  unfolding take_at
  take_some h = simp (le-leb _ _ h)

module _ (s : List ℕ) (at : ℕ) where
  pub var_none : length s ≤ at → cut ≡ var_at s at
  unfolding var_at
  var_none h = simp (le-ltb _ _ h)

  module _ (n : ℕ) (h : at < length s) (e : n ≡ var_len (byte_at s at)) where
    pub var_short : length s < at + n → cut ≡ var_at s at
    unfolding var_at
    var_short l = rw (lt-ltb _ _ h, ← e, lt-leb _ _ l)

    pub var_some : (v : ℕ) → at + n ≤ length s → v ≡ be (byte_at s at % 64) (take (n - 1) (drop (at + 1) s)) → got v (at + n) ≡ var_at s at
    unfolding var_at
    var_some v l k = rw (k, lt-ltb _ _ h, ← e, le-leb _ _ l)

  -- one byte below 64 is itself
  pub var_one : at < length s → byte_at s at < 64 → got (byte_at s at) (at + 1) ≡ var_at s at
  unfolding var_len be
  var_one h k =
      let q : byte_at s at / 64 ≡ 0 = omega arith in
      let m : byte_at s at ≡ byte_at s at % 64 = omega arith in
      var_some 1 h (simp q) (byte_at s at) (omega arith) m

-- ---- what a read says of the input: it ends past its start and inside

module _ {A : Type 0} (s : List ℕ) (at n next : ℕ) (a b : A) where
  -- a field of n bytes
  pub whole : (if leb (at + n) (length s) then got a (at + n) else cut) ≡ got b next → (at + n ≤ length s) × ((next ≡ at + n) × (a ≡ b))
  whole = go (leb (at + n) (length s)) refl
    where
      go : (t : Bool) → leb (at + n) (length s) ≡ t → (if t then got a (at + n) else cut) ≡ got b next → (at + n ≤ length s) × ((next ≡ at + n) × (a ≡ b))
      go true e h = (leb-true _ _ e, (cc, cc))
      go false e h = let z : ◌≡◌ {A = ℕ} 0 1 = cc in absurd (omega arith)

pub fixed_inside : (n : ℕ) (s : List ℕ) (at v next : ℕ) → fixed_at n s at ≡ got v next → (next ≡ at + n) × (next ≤ length s)
unfolding fixed_at
fixed_inside n s at v next e = let w = whole s at n next _ v e in (w.1.0, omega (arith, w))

pub take_inside : (n : ℕ) (s : List ℕ) (at : ℕ) (p : Place) (next : ℕ) → take_at n s at ≡ got p next
    → ((p.start ≡ at) × (p.len ≡ n)) × ((next ≡ at + n) × (next ≤ length s))
unfolding take_at
take_inside n s at p next e =
    let w = whole s at n next _ p e in
    ((ap (λ (q : Place). q.start) (sym w.1.1), ap (λ (q : Place). q.len) (sym w.1.1)), (w.1.0, omega (arith, w)))

pub fixed_below : (n : ℕ) (s : List ℕ) (at v next : ℕ) → Octets s → fixed_at n s at ≡ got v next → v < 256 ^ n
unfolding fixed_at
fixed_below n s at v next o e =
    let w = whole s at n next _ v e in
    let t : List ℕ = take n (drop at s) in
    let l : length t ≡ n = simp (length-take, length-drop) (omega arith) in
    let b : be 0 t < 1 * 256 ^ length t = be_below t 0 1 (octets_take n (drop at s) (octets_drop at s o)) (omega arith) in
    let c : be 0 t < 1 * 256 ^ n = rw l at b in
    rw (← w.1.1) (omega (arith, c))

-- what an integer that was read says of the input
pub record ReadVar (s : List ℕ) (at v next : ℕ) : Type 0 where
  pub begun : at < length s
  pub whole : at + var_len (byte_at s at) ≤ length s
  pub value : v ≡ be (byte_at s at % 64) (take (var_len (byte_at s at) - 1) (drop (at + 1) s))
  pub past : next ≡ at + var_len (byte_at s at)

pub read_var : (s : List ℕ) (at v next : ℕ) → var_at s at ≡ got v next → ReadVar s at v next
unfolding var_at
read_var s at v next = go (ltb at (length s)) (leb (at + n) (length s)) refl refl
  where
    n : ℕ
    n = var_len (byte_at s at)

    x : ℕ
    x = be (byte_at s at % 64) (take (n - 1) (drop (at + 1) s))

    go : (a b : Bool) → ltb at (length s) ≡ a → leb (at + n) (length s) ≡ b
        → (if a then (if b then got x (at + n) else cut) else cut) ≡ got v next → ReadVar s at v next
    go true true p q h = record { begun = ltb-true _ _ p; whole = leb-true _ _ q; value = cc; past = cc }
    go true false p q h = let z : ◌≡◌ {A = ℕ} 0 1 = cc in absurd (omega arith)
    go false b p q h = let z : ◌≡◌ {A = ℕ} 0 1 = cc in absurd (omega arith)

pub var_inside : (s : List ℕ) (at v next : ℕ) → var_at s at ≡ got v next → (at < next) × (next ≤ length s)
unfolding var_len
var_inside s at v next e =
    let r = read_var s at v next e in
    (omega (arith, r, one-le-pow (byte_at s at / 64) 2 (omega arith)), omega (arith, r))

-- the value is below 2^62
pub var_below : (s : List ℕ) (at v next : ℕ) → Octets s → var_at s at ≡ got v next → v < 2 ^ 62
unfolding var_len
var_below s at v next o e =
    let r = read_var s at v next e in
    let n : ℕ = var_len (byte_at s at) in
    let t : List ℕ = take (n - 1) (drop (at + 1) s) in
    let small : n ≤ 2 ^ 3 = pow-le-pow_right {n = 2} (omega arith) {j = 3} (omega (arith, o at)) in
    let len : length t ≤ 7 = simp length-take (omega arith) in
    let b = be_below t (byte_at s at % 64) 64 (octets_take (n - 1) (drop (at + 1) s) (octets_drop (at + 1) s o)) (omega arith) in
    rw r.value (lt_of_lt_of_le b (mul-le-mul_left 64 (pow256 (length t) 7 len)))
