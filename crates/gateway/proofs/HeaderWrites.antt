-- The ways a header write ends, each from the tests that lead to it.
use Prim.Native.Nat.{ℕ}
use mathlib.Core.Path.{◌≡◌, refl, ap, ◌∙◌}
use mathlib.Core.List.{List}
use mathlib.Core.Bool.{Bool, true, false}
use lib.ListN.{length}
use Rattle.coding.specs.Words.{Answer, no}
use Rattle.coding.specs.Writing.{in_room, length_of, into_buffer}
use Rattle.shared.specs.Cid.{cid_of}
use Rattle.packet_out.specs.Encoding.{Plain, Partial, partial_of, EncodesAs}
use Rattle.packet_out.specs.Before.{header_with}
use Rattle.gateway.specs.Headers.{given_outside, kind_outside, lengths_outside, plain_for, written_record, PutsHeader, header_for}
use Rattle.gateway.specs.declared.records.HeaderGiven.{HeaderGiven}
use Rattle.gateway.specs.declared.records.HeaderAnswer.{HeaderAnswer}

module _ (p : Plain) {w : Answer (List ℕ)} (old : List ℕ) where
  pub encodes_no : {k : ℕ} → w ≡ no k → EncodesAs p w old (no k) old
  unfolding in_room length_of into_buffer partial_of
  encodes_no e = record { says = rw e; leaves = rw e }

  -- as encode says
  pub puts_said : {said : Answer Partial} {r : HeaderAnswer} {new : List ℕ} → EncodesAs p w old said new → r ≡ written_record said → PutsHeader p w old r new
  puts_said s e = record { says = e ∙ ap written_record s.says; leaves = s.leaves }

module _ (h : HeaderGiven) where
  module _ (dst src token n : ℕ) where
    pub outside_kind : kind_outside h ≡ true → given_outside h dst src token n ≡ true
    unfolding given_outside
    outside_kind e = rw e

    pub outside_by : kind_outside h ≡ false → given_outside h dst src token n ≡ lengths_outside dst src token n
    unfolding given_outside
    outside_by e = rw e

    pub outside_lengths : lengths_outside dst src token n ≡ true → given_outside h dst src token n ≡ true
    outside_lengths e = go (kind_outside h) refl
      where
        go : (b : Bool) → kind_outside h ≡ b → given_outside h dst src token n ≡ true
        go true k = outside_kind k
        go false k = outside_by k ∙ e

  module _ (dst src token : List ℕ) (n : ℕ) where
    pub for_no : given_outside h (length dst) (length src) (length token) n ≡ true → header_for h dst src token n ≡ no 14
    unfolding header_for
    for_no e = rw e

    pub for_ok : given_outside h (length dst) (length src) (length token) n ≡ false
        → header_for h dst src token n ≡ header_with (plain_for h) (cid_of dst) (cid_of src) token n
    unfolding header_for
    for_ok e = rw e
