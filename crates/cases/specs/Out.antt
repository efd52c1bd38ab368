-- The text so far, and the place where it ends.
use Rattle.std.specs.Prelude.{ℕ, ◌≡◌, List}
use Rattle.text.specs.Puts.{PutAll}
use Rattle.cases.specs.Stdio.{Zeros, kept}
use Rattle.cases.specs.declared.line.Out.{Out}

-- a text's pieces, put where the text so far ends
abbrev pub Told : List (List ℕ) → Out → Out → Type 0
Told xs old new = PutAll xs old.text old.at new.at new.text

-- no text yet
pub record Fresh (o : Out) : Type 0 where
  pub room : Zeros 400000 o.text
  pub begins : o.at ≡ 0

-- what is written out leaves the bytes where they are
pub record Spilt (old new : Out) : Type 0 where
  pub says : new.at ≡ kept old.at
  pub leaves : new.text ≡ old.text
