-- Bytes XORed over bytes.
use Prim.Native.Nat.{ℕ, zero, suc, ◌+◌, ◌<◌, ◌≤◌}
use mathlib.Core.Path.{◌≡◌, refl, sym, ap, ap₂, ◌∙◌}
use mathlib.Core.List.{List, [], ◌∷◌, ◌++◌, append-nil}
use native.Mathlib.Nat.{not-suc-le-zero, le_of_suc-le-suc}
use native.Mathlib.Numerals.{add-one}
use native.Mathlib.Omega.{arith}
use lib.Bits.{bit_xor, xor_assoc, xor_self, xor_zero_r}
use lib.Seq.{get_or-drop, take_all, drop-length}
use lib.ListN.{length, get_or, set, take, drop, length-append, length-take, length-drop, take-append-drop}
use Rattle.protect.specs.Protection.{xor, xor_at}

-- XORed twice, a number comes back
pub xor_twice : (a m : ℕ) → bit_xor (bit_xor a m) m ≡ a
xor_twice a m = rw (xor_assoc, xor_self, xor_zero_r)

pub xor_back : (ms l : List ℕ) → xor ms (xor ms l) ≡ l
unfolding xor
xor_back [] l = refl
xor_back (m ∷ ms) [] = refl
xor_back (m ∷ ms) (b ∷ l) = ap₂ (λ (x : ℕ) (r : List ℕ). x ∷ r) (xor_twice b m) (xor_back ms l)

pub length_xor : (ms l : List ℕ) → length (xor ms l) ≡ length l
unfolding xor
length_xor [] l = refl
length_xor (m ∷ ms) [] = refl
length_xor (m ∷ ms) (b ∷ l) = ap suc (length_xor ms l)

pub length_xor_at : (at : ℕ) (ms l : List ℕ) → length (xor_at at ms l) ≡ length l
unfolding xor_at
length_xor_at at ms l = simp (length-append, length-take, length_xor, length-drop) (omega arith)

-- one byte more
pub xor_more : (ms l : List ℕ) (i : ℕ) → i < length l → i < length ms
    → set (xor (take i ms) l) i (bit_xor (get_or (xor (take i ms) l) i 0) (get_or ms i 0)) ≡ xor (take (suc i) ms) l
unfolding xor
xor_more ms [] i h k = absurd (not-suc-le-zero h)
xor_more [] (b ∷ l) i h k = absurd (not-suc-le-zero k)
xor_more (m ∷ ms) (b ∷ l) zero h k = refl
xor_more (m ∷ ms) (b ∷ l) (suc i) h k = ap (λ (r : List ℕ). bit_xor b m ∷ r) (xor_more ms l i (le_of_suc-le-suc h) (le_of_suc-le-suc k))

-- past the bytes that are XORed over, every byte is as it was
pub xor_past : (ms l : List ℕ) (i : ℕ) → length ms ≤ i → get_or (xor ms l) i 0 ≡ get_or l i 0
unfolding xor
xor_past [] l i h = refl
xor_past (m ∷ ms) [] i h = refl
xor_past (m ∷ ms) (b ∷ l) zero h = absurd (not-suc-le-zero h)
xor_past (m ∷ ms) (b ∷ l) (suc i) h = xor_past ms l i (le_of_suc-le-suc h)

-- a turn of the loop, with the mask's bytes from its second on
pub xor_on : (mask l part : List ℕ) (i : ℕ) → part ≡ xor (take i (drop 1 mask)) l → i < length l → i + 1 < length mask
    → set part i (bit_xor (get_or part i 0) (get_or mask (i + 1) 0)) ≡ xor (take (i + 1) (drop 1 mask)) l
xor_on mask l part i e h k =
    let ms : List ℕ = drop 1 mask in
    let j : i < length ms = simp length-drop (omega arith) in
    let g : get_or ms i 0 ≡ get_or mask (suc i) 0 = get_or-drop 1 mask i 0 ∙ ap (λ (j : ℕ). get_or mask j 0) (omega arith) in
    rw (e, add-one) (ap (λ (x : ℕ). set (xor (take i ms) l) i (bit_xor (get_or (xor (take i ms) l) i 0) x)) (sym g) ∙ xor_more ms l i h j)

-- no more bytes are looked at than there are to XOR over, and of n of them no more than n
pub xor_take : (n : ℕ) (ms l : List ℕ) → xor (take n ms) l ≡ xor ms (take n l) ++ drop n l
unfolding xor
xor_take zero [] l = refl
xor_take zero (m ∷ ms) l = refl
xor_take (suc n) [] l = sym (take-append-drop (suc n) l)
xor_take (suc n) (m ∷ ms) [] = refl
xor_take (suc n) (m ∷ ms) (b ∷ l) = ap (λ (r : List ℕ). bit_xor b m ∷ r) (xor_take n ms l)

pub xor_whole : (ms l : List ℕ) → xor (take (length l) ms) l ≡ xor ms l
xor_whole ms l = xor_take (length l) ms l ∙ rw (take_all (length l) l (omega arith), drop-length l) (append-nil _)
