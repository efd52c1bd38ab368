-- What is wrong with an input is told: a record that is cut is not taken for the input's end, and no other line is that of a bad one.
use Rattle.std.specs.Prelude.{Result, Ok, Err}
use mathlib.Core.Path.{◌≡◌, refl, ap}
use mathlib.Core.List.{List}
use mathlib.Core.Bool.{Bool, true, false}
use Prim.Native.Nat.{ℕ}
use native.Mathlib.Omega.{arith}
use lib.ListN.{length, get_or}
use lib.Dec.{leb}
use borrow.Author.Tests.{leb-false}
use Rattle.coding.specs.Words.{cut}
use Rattle.coding.specs.Reading.{fixed_at}
use Rattle.coding.proofs.Rules.{then_all}
use Rattle.cases.specs.Records.{Case, asked, ended, stopped, head_in}
use Rattle.cases.specs.Lines.{end_word, bad_word}
use Rattle.cases.specs.Said.{word_of, is_bad}
use Rattle.coding.specs.declared.refusal.Refusal.{Refusal}
use Rattle.cases.specs.declared.line.Answer.{Answer}
use Rattle.cases.specs.declared.line.Answer.TheVariants as answer

-- an input has ended only where no byte is left
abbrev goes_on : Case → Bool
goes_on (asked op len) = true
goes_on ended = false
goes_on stopped = true

no_byte : (s : List ℕ) → fixed_at 1 s 0 ≡ cut → length s ≡ 0
unfolding fixed_at
no_byte s = go (leb 1 (length s)) refl
  where
    go : (b : Bool) → leb 1 (length s) ≡ b → fixed_at 1 s 0 ≡ cut → length s ≡ 0
    go true e q = let z : ◌≡◌ {A = ℕ} 0 1 = cc in absurd (omega arith)
    go false e q = let l = leb-false 1 (length s) e in omega arith

pub ended_empty : (s : List ℕ) → goes_on (head_in s) ≡ false → length s ≡ 0
unfolding head_in
ended_empty s =
    let P : Case → Type 0 = λ t. goes_on t ≡ false → length s ≡ 0 in
    let on : true ≡ false → length s ≡ 0 = λ e. let z : ◌≡◌ {A = ℕ} 0 1 = cc in absurd (omega arith) in
    then_all P (fixed_at 1 s 0) _ _ (λ e q. no_byte s e) (λ op p _.
    then_all P (fixed_at 1 s p) _ _ (λ _. on) (λ high q _.
    then_all P (fixed_at 2 s q) _ _ (λ _. on) (λ low next _. on)))

-- by its first letter: the last line of an input that stopped is not that of one that ended
pub stop_told : end_word stopped ≡ end_word ended → ⊥
unfolding end_word
stop_told e = let f = ap (λ (l : List ℕ). get_or l 0 0) e in omega (arith, f)

-- and no answer but that of a bad record has its word
pub bad_told : (a : Result Answer Refusal) → word_of a ≡ bad_word → is_bad a ≡ true
unfolding word_of is_bad
bad_told a e = go a (ap (λ (l : List ℕ). get_or l 0 0) e)
  where
    go : (x : Result Answer Refusal) → get_or (word_of x) 0 0 ≡ get_or bad_word 0 0 → is_bad x ≡ true
    go (Ok answer.Bad) f = refl
    go (Ok answer.Nothing) f = absurd (omega (arith, f))
    go (Err why) f = absurd (omega (arith, f))
    go (Ok answer.Done) f = absurd (omega (arith, f))
    go (Ok (answer.One x)) f = absurd (omega (arith, f))
    go (Ok (answer.Two x y)) f = absurd (omega (arith, f))
    go (Ok (answer.Three x y z)) f = absurd (omega (arith, f))
    go (Ok (answer.Number x)) f = absurd (omega (arith, f))
