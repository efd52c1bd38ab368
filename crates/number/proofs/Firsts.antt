-- The number that the first bytes of a longer one make.
use Prim.Native.Nat.{ℕ, zero, suc, ◌+◌, ◌-◌, ◌*◌, ◌/◌, ◌%◌, ◌^◌, ◌<◌, ◌≤◌}
use mathlib.Core.Path.{◌≡◌, refl, sym, ap, ◌∙◌}
use mathlib.Core.List.{List, [], ◌∷◌, ◌++◌}
use native.Mathlib.Nat.{pow-succ', mod-eq_of_lt}
use native.Mathlib.Omega.{arith}
use lib.Arith.{digits_div}
use lib.ListN.{length, take, drop, length-take, length-drop}
use lib.Seq.{take-add, take_all}
use Rattle.coding.specs.Bytes.{be, bytes_be}
use Rattle.coding.proofs.Laws.{Octets, octets_take, octets_drop, be_below, length_bytes_be}
use Rattle.coding.proofs.Back.{be_bytes}

be_append : (v : ℕ) (bs cs : List ℕ) → be v (bs ++ cs) ≡ be (be v bs) cs
unfolding be
be_append v [] cs = refl
be_append v (b ∷ bs) cs = be_append (v * 256 + b) bs cs

be_from : (v : ℕ) (bs : List ℕ) → be v bs ≡ v * 256 ^ length bs + be 0 bs
unfolding be
be_from v [] = omega arith
be_from v (b ∷ bs) =
    let p : 256 ^ suc (length bs) ≡ 256 * 256 ^ length bs = pow-succ' 256 (length bs) in
    let z : be (0 * 256 + b) bs ≡ (0 * 256 + b) * 256 ^ length bs + be 0 bs = be_from (0 * 256 + b) bs in
    be_from (v * 256 + b) bs ∙ rw (p, z) (omega arith)

-- of n bytes, the first k
pub be_first : (l : List ℕ) (n k : ℕ) → Octets l → k ≤ n → n ≤ length l → be 0 (take n l) / 256 ^ (n - k) ≡ be 0 (take k l)
be_first l n k o h j =
    let t : List ℕ = take (n - k) (drop k l) in
    let len : length t ≡ n - k = simp (length-take, length-drop) (omega arith) in
    let e : n ≡ k + (n - k) = omega arith in
    let s : take n l ≡ take k l ++ t = ap (λ (m : ℕ). take m l) e ∙ take-add k (n - k) l in
    let b : be 0 t < 1 * 256 ^ length t = be_below t 0 1 (octets_take (n - k) (drop k l) (octets_drop k l o)) (omega arith) in
    let b' : be 0 t < 256 ^ length t = omega (arith, b) in
    let c : be 0 t < 256 ^ (n - k) = rw len at b' in
    let v : be 0 (take n l) ≡ be 0 (take k l) * 256 ^ (n - k) + be 0 t = ap (be 0) s ∙ be_append 0 (take k l) t ∙ be_from (be 0 (take k l)) t ∙ rw len in
    rw v (digits_div (be 0 (take k l)) c)

octets_bytes : (n x : ℕ) → Octets (bytes_be n x)
unfolding bytes_be
octets_bytes zero x i = omega arith
octets_bytes (suc n) x zero = omega arith
octets_bytes (suc n) x (suc i) = octets_bytes n x i

-- and so of the n bytes of x
pub be_shorter : (n k x : ℕ) → k ≤ n → x < 256 ^ n → be 0 (take k (bytes_be n x)) ≡ x / 256 ^ (n - k)
be_shorter n k x h j =
    let len = length_bytes_be n x in
    let m : x % 256 ^ n ≡ x = mod-eq_of_lt j in
    let v : be 0 (take n (bytes_be n x)) ≡ x = ap (be 0) (take_all n (bytes_be n x) (omega (arith, len))) ∙ be_bytes n 0 x ∙ rw m (omega arith) in
    sym (be_first (bytes_be n x) n k (octets_bytes n x) h (omega (arith, len))) ∙ ap (λ (y : ℕ). y / 256 ^ (n - k)) v
