-- What one turn of this crate's loops does.
use mathlib.Core.Path.{◌≡◌, refl, ap, ◌∙◌}
use mathlib.Core.List.{List, [], ◌∷◌, ◌++◌}
use Prim.Native.Nat.{ℕ, suc, ◌+◌, ◌-◌, ◌*◌, ◌/◌, ◌%◌, ◌^◌, ◌≤◌, ◌<◌}
use native.Mathlib.Nat.{pow-suc, pow-succ', mul_assoc, mul-le-mul_right, le_trans, le-mul_of_pos_right, one-le-pow, div-div-eq-div-mul}
use native.Mathlib.Numerals.{add-one}
use native.Mathlib.Omega.{arith}
use Rattle.std.proofs.lemmas.List.{get_or-take}
use lib.ListN.{length, take, drop, get_or, set, length-take, length-drop}
use lib.Seq.{take-suc, get_or-drop, set_comm, sets, sets-eq}
use Rattle.coding.specs.Bytes.{be, bytes_be, splice}
use Rattle.coding.specs.Varint.{var_size, var_bytes, var_put}
use Rattle.coding.specs.Writing.{Put}
use Rattle.coding.proofs.Laws.{size_tag, put_some}

-- ---- reading a number: one byte more

be_snoc : (v : ℕ) (bs : List ℕ) (b : ℕ) → be v (bs ++ (b ∷ [])) ≡ be v bs * 256 + b
unfolding be
be_snoc v [] b = refl
be_snoc v (x ∷ bs) b = be_snoc (v * 256 + x) bs b

pub be_more : (v : ℕ) (s : List ℕ) (at i : ℕ) → at + i < length s
    → be v (take (i + 1) (drop at s)) ≡ be v (take i (drop at s)) * 256 + get_or s (at + i) 0
be_more v s at i h =
    let k : i < length (drop at s) = simp length-drop (omega arith) in
    rw (add-one, take-suc (drop at s) i 0, be_snoc, get_or-drop)

-- the part that the loop goes over: as long as asked, and of the bytes there
pub part_len : (s : List ℕ) (at n : ℕ) → at + n ≤ length s → length (take (at + n - at) (drop at s)) ≡ n
part_len s at n h = simp (length-take, length-drop) (omega arith)

pub part_at : (s : List ℕ) (at n i : ℕ) → i < n → get_or (take (at + n - at) (drop at s)) i 0 ≡ get_or s (at + i) 0
part_at s at n i h = get_or-take (at + n - at) (drop at s) i 0 (omega arith) ∙ get_or-drop at s i 0

-- room for the bytes from i to n after v: after one byte more there is room for those from i + 1
pub room : (v b n i m : ℕ) → b < 256 → i < n → (v + 1) * 256 ^ (n - i) ≤ m → (v * 256 + b + 1) * 256 ^ (n - (i + 1)) ≤ m
room v b n i m hb hi h =
    let k : ℕ = n - (i + 1) in
    let e : n - i ≡ suc k = omega arith in
    let up : (v * 256 + b + 1) * 256 ^ k ≤ (v + 1) * 256 * 256 ^ k = mul-le-mul_right (256 ^ k) (omega arith) in
    let h' : (v + 1) * 256 ^ suc k ≤ m = rw e at h in
    let p : (v + 1) * 256 ^ suc k ≡ (v + 1) * 256 * 256 ^ k = rw (pow-succ', mul_assoc) in
    le_trans up (rw p at h')

-- and so the byte more fits
pub room_fits : (v b n i m : ℕ) → b < 256 → i < n → (v + 1) * 256 ^ (n - i) ≤ m → v * 256 + b < m
room_fits v b n i m hb hi h =
    let k : ℕ = n - (i + 1) in
    let up : v * 256 + b + 1 ≤ (v * 256 + b + 1) * 256 ^ k = le-mul_of_pos_right (v * 256 + b + 1) (one-le-pow k 256 (omega arith)) in
    omega (arith, room v b n i m hb hi h)

-- ---- storing a number from its last byte to its first

-- a store in front of a run of stores comes first as well
set_sets : (ys l : List ℕ) (j k y : ℕ) → j < k → set (sets l k ys) j y ≡ sets (set l j y) k ys
set_sets [] l j k y h = refl
set_sets (a ∷ ys) l j k y h =
    set_sets ys (set l k a) j (suc k) y (omega arith)
    ∙ ap (λ (r : List ℕ). sets r (suc k) ys) (set_comm l k j a y (λ e. omega arith))

-- one byte more, in front
pub put_more : (l : List ℕ) (at n x i : ℕ) → 0 < i → i ≤ n
    → set (sets l (at + i) (bytes_be (n - i) x)) (at + (i - 1)) (x / 256 ^ (n - i) % 256) ≡ sets l (at + (i - 1)) (bytes_be (n - (i - 1)) x)
unfolding bytes_be
put_more l at n x i h k =
    let e : n - (i - 1) ≡ suc (n - i) = omega arith in
    let p : at + i ≡ suc (at + (i - 1)) = omega arith in
    rw (e, p) (set_sets (bytes_be (n - i) x) l (at + (i - 1)) (suc (at + (i - 1))) (x / 256 ^ (n - i) % 256) (omega arith))

-- what is left of x to store
pub rest_more : (n x i : ℕ) → 0 < i → i ≤ n → x / 256 ^ (n - i) / 256 ≡ x / 256 ^ (n - (i - 1))
rest_more n x i h k =
    let e : n - (i - 1) ≡ suc (n - i) = omega arith in
    rw (e, pow-suc) (div-div-eq-div-mul x (256 ^ (n - i)) 256)

-- the stores make the splice
pub sets_splice : (l bs : List ℕ) (at : ℕ) → at + length bs ≤ length l → sets l at bs ≡ splice l at bs
unfolding splice
sets_splice l bs at h = sets-eq bs l at h

-- ---- an integer that is put, by its size

pub put_sized : (x k : ℕ) (old : List ℕ) (at r : ℕ) (new : List ℕ)
    → x < 2 ^ 62 → var_size x ≡ 2 ^ k → Put (bytes_be (2 ^ k) (k * 2 ^ (8 * 2 ^ k - 2) + x)) old at r new → Put (var_put x) old at r new
unfolding var_bytes var_size
put_sized x k old at r new h e p = rw (put_some x h, size_tag x k e) p
