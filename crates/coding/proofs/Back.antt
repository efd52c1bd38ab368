-- What is written is read back, wherever it stands.
use mathlib.Core.Path.{◌≡◌, refl, ap, ◌∙◌}
use mathlib.Core.List.{List, ◌∷◌, ◌++◌, append_assoc}
use Prim.Native.Nat.{ℕ, zero, suc, ◌+◌, ◌-◌, ◌*◌, ◌/◌, ◌%◌, ◌^◌, ◌≤◌, ◌<◌}
use native.Mathlib.Nat.{pow-succ', one-le-pow, mul_assoc, mul-add-div_right, mul-add-mod_self_right, div-lt_iff_lt-mul, div-add-mod'}
use native.Mathlib.Omega.{arith}
use lib.Arith.{mod-mul}
use lib.Dec.{ltb, leb}
use lib.ListN.{length, take, drop, get_or, length-append}
use lib.Seq.{get_or-append_seam, drop-append-add, take_at as take_to, drop_at, length-take-le}
use borrow.Author.Tests.{lt-ltb, le-leb}
use mathlib.Core.Bool.{true}
use Rattle.coding.specs.Words.{got}
use Rattle.coding.specs.Bytes.{be, bytes_be, splice}
use Rattle.coding.specs.Places.{part_of}
use Rattle.coding.specs.Reading.{fixed_at, take_at}
use Rattle.coding.specs.Varint.{var_len, var_at, var_tag, var_size, var_bytes}
use Rattle.coding.proofs.Laws.{length_bytes_be, fits_tag, low_bits}

-- the bytes of x after a
pub be_bytes : (n a x : ℕ) → be a (bytes_be n x) ≡ a * 256 ^ n + x % 256 ^ n
unfolding be bytes_be
be_bytes zero a x = omega arith
be_bytes (suc n) a x =
    let p : 256 ^ suc n ≡ 256 * 256 ^ n = pow-succ' 256 n in
    let m : x % (256 * 256 ^ n) ≡ (x / 256 ^ n % 256) * 256 ^ n + x % 256 ^ n = mod-mul x (omega arith) (one-le-pow n 256 (omega arith)) in
    be_bytes n (a * 256 + x / 256 ^ n % 256) x ∙ rw (p, m) (omega arith)

-- ---- n bytes: the number's last n bytes come back

pub fixed_back : (p q : List ℕ) (n x : ℕ) → fixed_at n (p ++ (bytes_be n x ++ q)) (length p) ≡ got (x % 256 ^ n) (length p + n)
unfolding fixed_at
fixed_back p q n x =
    let bs : List ℕ = bytes_be n x in
    let l : length bs ≡ n = length_bytes_be n x in
    let d : drop (length p) (p ++ (bs ++ q)) ≡ bs ++ q = drop_at p (bs ++ q) (length p) refl in
    let t : take n (bs ++ q) ≡ bs = take_to bs q n l in
    let all : length (p ++ (bs ++ q)) ≡ length p + (length bs + length q) = simp length-append in
    let i : leb (length p + n) (length (p ++ (bs ++ q))) ≡ true = le-leb (length p + n) (length (p ++ (bs ++ q))) (omega arith) in
    rw (i, d, t, be_bytes n 0 x) (ap (λ (v : ℕ). got v (length p + n)) (omega arith))

-- ---- bytes put somewhere lie in the place that is taken there

module _ (p bs q : List ℕ) where
  all : length (p ++ (bs ++ q)) ≡ length p + (length bs + length q)
  all = simp length-append

  pub take_back : take_at (length bs) (p ++ (bs ++ q)) (length p) ≡ got (record { start = length p; len = length bs }) (length p + length bs)
  unfolding take_at
  take_back = rw (le-leb (length p + length bs) (length (p ++ (bs ++ q))) (omega (arith, all)))

  pub part_back : part_of (p ++ (bs ++ q)) (record { start = length p; len = length bs }) ≡ bs
  unfolding part_of
  part_back =
      let i : leb (length p + length bs) (length (p ++ (bs ++ q))) ≡ true = le-leb (length p + length bs) (length (p ++ (bs ++ q))) (omega (arith, all)) in
      let d : drop (length p) (p ++ (bs ++ q)) ≡ bs ++ q = drop_at p (bs ++ q) (length p) refl in
      simp (i, d) (take_to bs q (length bs) refl)

-- ---- an integer

-- a first byte and the bytes after it, anywhere in a list
var_cons : (p t q : List ℕ) (b n v : ℕ) → var_len b ≡ n → length t + 1 ≡ n → be (b % 64) t ≡ v
    → var_at (p ++ (b ∷ (t ++ q))) (length p) ≡ got v (length p + n)
unfolding var_at
var_cons p t q b n v e l w =
    let s : List ℕ = p ++ (b ∷ (t ++ q)) in
    let first : get_or s (length p) 0 ≡ b = get_or-append_seam p b (t ++ q) 0 in
    let rest : drop (length p + 1) s ≡ t ++ q = drop-append-add p (b ∷ (t ++ q)) 1 in
    let all : length s ≡ length p + (1 + (length t + length q)) = simp length-append (omega arith) in
    let k : take (n - 1) (t ++ q) ≡ t = take_to t q (n - 1) (omega arith) in
    let i : ltb (length p) (length s) ≡ true = lt-ltb (length p) (length s) (omega arith) in
    let j : leb (length p + n) (length s) ≡ true = le-leb (length p + n) (length s) (omega arith) in
    simp (first, e, i, j, rest, k, w)

module _ (k x m : ℕ) (pos : 0 < m) (small : x < 64 * m) where
  -- the first byte of k in the two top bits over x, which has m below its first six
  top : (k * (64 * m) + x) / m ≡ k * 64 + x / m
  top = rw (← mul_assoc k 64 m) (mul-add-div_right pos (k * 64) x)

  below : (k * (64 * m) + x) % m ≡ x % m
  below = rw (← mul_assoc k 64 m) (mul-add-mod_self_right (k * 64) m x)

  six : x / m < 64
  six = (div-lt_iff_lt-mul pos).1 small

pub var_back : (p q : List ℕ) (x : ℕ) → x < 2 ^ 62 → var_at (p ++ (var_bytes x ++ q)) (length p) ≡ got x (length p + var_size x)
unfolding var_bytes bytes_be var_size var_len
var_back p q x h =
    let k : ℕ = var_tag x in
    let t = fits_tag x h in
    let n : ℕ = 2 ^ k - 1 in
    let m : ℕ = 256 ^ n in
    let v : ℕ = k * 2 ^ (8 * 2 ^ k - 2) + x in
    let one : 2 ^ k ≡ suc n = omega (arith, one-le-pow k 2 (omega arith)) in
    let low : 2 ^ (8 * 2 ^ k - 2) ≡ 64 * m = low_bits k t.0 in
    let pos : 0 < m = one-le-pow n 256 (omega arith) in
    let small : x < 64 * m = rw low at t.1 in
    let high : v / m ≡ k * 64 + x / m = rw low (top k x m pos small) in
    let rest : v % m ≡ x % m = rw low (below k x m pos small) in
    let six' : x / m < 64 = six k x m pos small in
    let b : ℕ = v / m % 256 in
    let tag : b / 64 ≡ k = omega arith in
    let bits : b % 64 ≡ x / m = omega arith in
    let len : length (bytes_be n v) + 1 ≡ 2 ^ k = omega (arith, length_bytes_be n v) in
    let val : be (b % 64) (bytes_be n v) ≡ x = be_bytes n (b % 64) v ∙ rw (bits, rest) (div-add-mod' x m) in
    let c : bytes_be (2 ^ k) v ≡ b ∷ bytes_be n v = ap (λ (j : ℕ). bytes_be j v) one in
    rw c (var_cons p (bytes_be n v) q b (2 ^ k) x (ap (λ (j : ℕ). 2 ^ j) tag) len val)

-- and so after a put at a place of a buffer
pub var_spliced : (l : List ℕ) (at x : ℕ) → x < 2 ^ 62 → at ≤ length l → var_at (splice l at (var_bytes x)) at ≡ got x (at + var_size x)
unfolding splice
var_spliced l at x h k =
    let e : length (take at l) ≡ at = length-take-le at l k in
    rw append_assoc (rw e at (var_back (take at l) (drop (at + length (var_bytes x)) l) x h))
