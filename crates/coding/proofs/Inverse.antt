-- Each map from the code's answers to the paper's words has an inverse: what is said settles the answer.
use mathlib.Core.Path.{◌≡◌, refl, sym, ap, ◌∙◌}
use Prim.Native.Nat.{ℕ}
use native.Mathlib.Omega.{arith}
use Rattle.coding.specs.Words.{Got, cut, got, Answer, no, ok}
use Rattle.std.specs.Prelude.{Result, Ok, Err}
use Rattle.coding.specs.Said.{found_by, Reads, answer_of, made_of}
use Rattle.coding.specs.declared.reader.Reader.{Reader}
use Rattle.coding.proofs.Numbers.{refusal_of, refusal_back}
use Rattle.coding.specs.declared.refusal.Refusal.{Refusal}
use Rattle.coding.specs.declared.refusal.UnexpectedEnd.{UnexpectedEnd}
use Rattle.coding.specs.declared.varint.VarInt.{VarInt}

-- a map with an inverse: two that say the same are the same
pub one_by : {A B : Type 0} (f : A → B) (g : B → A) → ((a : A) → g (f a) ≡ a) → (x y : A) (b : B) → f x ≡ b → f y ≡ b → x ≡ y
one_by f g back x y b p q = sym (back x) ∙ ap g (p ∙ sym q) ∙ back y

-- what is found, by its two cases; what is answered, by its two cases
abbrev pub found : {A B : Type 0} → B → (A → ℕ → B) → Got A → B
found stop f cut = stop
found stop f (got a n) = f a n

abbrev pub answered : {A B : Type 0} → (ℕ → B) → (A → B) → Answer A → B
answered f g (no k) = f k
answered f g (ok a) = g a

-- two reads of one reader that find the same, by an f that tells its values, answer the same and stand at one place
pub reads_one : {A B : Type 0} (f : A → B) → ((a b : A) → f a ≡ f b → a ≡ b) → (m : Got B) (old x' y' : Reader) (x y : Result A UnexpectedEnd)
    → Reads f m old x x' → Reads f m old y y' → ◌≡◌ {A = Result A UnexpectedEnd × Reader} (x, x') (y, y')
unfolding found_by
reads_one {A} {B} f one m old x' y' x y p q = same x y p q
  where
    found_at : Got B → ℕ
    found_at = found 0 (λ b n. n)

    is_got : Got B → ℕ
    is_got = found 0 (λ b n. 1)

    same : (x y : Result A UnexpectedEnd) → Reads f m old x x' → Reads f m old y y' → ◌≡◌ {A = Result A UnexpectedEnd × Reader} (x, x') (y, y')
    same (Ok v) (Ok w) p q =
        let e = p.finds ∙ sym q.finds in
        let a = one v w (ap (λ g. found (f v) (λ b n. b) g) e) in
        let n = ap found_at e in
        let b = p.bytes ∙ sym q.bytes in
        λ i. (Ok (a i), record { bytes = b i; at = n i })
    same (Ok v) (Err g) p q = let z : ◌≡◌ {A = ℕ} 1 0 = ap is_got (p.finds ∙ sym q.finds) in absurd (omega arith)
    same (Err g) (Ok w) p q = let z : ◌≡◌ {A = ℕ} 0 1 = ap is_got (p.finds ∙ sym q.finds) in absurd (omega arith)
    same (Err g) (Err h) p q =
        let n = p.stays (sym p.finds) ∙ sym (q.stays (sym q.finds)) in
        let b = p.bytes ∙ sym q.bytes in
        λ i. (Err h, record { bytes = b i; at = n i })

pub answer_one : {A : Type 0} (x y : Result A Refusal) (g : Answer A) → answer_of x ≡ g → answer_of y ≡ g → x ≡ y
unfolding answer_of
answer_one {A} = one_by answer_of (answered (λ k. Err (refusal_of k)) Ok) back
  where
    back : (r : Result A Refusal) → answered (λ k. Err (refusal_of k)) Ok (answer_of r) ≡ r
    back (Ok a) = refl
    back (Err why) = ap Err (refusal_back why)

pub made_one : (x y : Result VarInt Refusal) (g : Answer ℕ) → made_of x ≡ g → made_of y ≡ g → x ≡ y
unfolding made_of
made_one = one_by made_of (answered (λ k. Err (refusal_of k)) (λ v. Ok (record { 0 = v }))) back
  where
    back : (r : Result VarInt Refusal) → answered (λ k. Err (refusal_of k)) (λ v. Ok (record { 0 = v })) (made_of r) ≡ r
    back (Ok v) = refl
    back (Err why) = ap Err (refusal_back why)
