-- How a text's pieces are put one after the other.
use Rattle.std.specs.Prelude.{if◌then◌else◌}
use mathlib.Core.Path.{◌≡◌, refl, sym, ap, ◌∙◌}
use mathlib.Core.List.{List, [], ◌∷◌, ◌++◌}
use mathlib.Core.Bool.{Bool, true, false}
use Prim.Native.Nat.{ℕ, ◌+◌}
use lib.ListN.{length}
use lib.Dec.{leb}
use Rattle.coding.specs.Bytes.{splice}
use Rattle.coding.specs.Writing.{Put}
use Rattle.text.specs.Puts.{put_one, puts, PutAll}

-- what follows a text goes on from where the text ended
pub puts_more : (xs ys : List (List ℕ)) (o : ℕ × List ℕ) → puts (xs ++ ys) o ≡ puts ys (puts xs o)
unfolding puts
puts_more [] ys o = refl
puts_more (x ∷ xs) ys o = puts_more xs ys (put_one x o)

-- a put is a text of one piece
pub one_piece : {bs old new : List ℕ} {at r : ℕ} → Put bs old at r new → PutAll (bs ∷ []) old at r new
unfolding puts put_one
one_piece {bs} {old} {new} {at} {r} p = pair ∙ go (leb (at + length bs) (length old))
  where
    there : Bool → ℕ × List ℕ
    there t = (if t then at + length bs else at, if t then splice old at bs else old)

    pair : ◌≡◌ {A = ℕ × List ℕ} (r, new) (there (leb (at + length bs) (length old)))
    pair i = (p.place i, p.bytes i)

    go : (t : Bool) → there t ≡ (if t then (at + length bs, splice old at bs) else (at, old))
    go true = refl
    go false = refl

-- one text after another, and a piece before a text
module _ (old : List ℕ) (at r : ℕ) (new : List ℕ) {mid : List ℕ} {p : ℕ} (ys : List (List ℕ)) where
  pub text_on : (xs : List (List ℕ)) → PutAll xs old at p mid → PutAll ys mid p r new → PutAll (xs ++ ys) old at r new
  text_on xs e f = f ∙ ap (puts ys) e ∙ sym (puts_more xs ys (at, old))

  pub piece_on : (bs : List ℕ) → Put bs old at p mid → PutAll ys mid p r new → PutAll (bs ∷ ys) old at r new
  unfolding puts
  piece_on bs e f = f ∙ ap (puts ys) (one_piece e)

-- a run of puts makes a text
pub ruleset pieces = (text_on, piece_on, one_piece)
