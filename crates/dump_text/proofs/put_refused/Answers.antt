use mathlib.Core.List.{List, [], ◌∷◌, ◌++◌}
use Prim.Native.Nat.{ℕ}
use Rattle.dump_text.specs.Dump.{number_then, refused_line}
use Rattle.dump_text.proofs.Puts.{shorter, room_after, two}
use Rattle.dump_text.proofs.put_refused.Goals as goal

-- "refused ", and the line up to its start
abbrev word : List ℕ
word = 0x72 ∷ 0x65 ∷ 0x66 ∷ 0x75 ∷ 0x73 ∷ 0x65 ∷ 0x64 ∷ 0x20 ∷ []

abbrev begun : ℕ → List ℕ
begun start = word ++ number_then start 0x20

pub put_word-b-requires : goal.put_word-b-requires
unfolding refused_line
put_word-b-requires c = room_after word _ (shorter (begun c.args.start) _ _ _ c.requires) c.put_slice-a.ensures

pub put_word-requires : goal.put_word-requires
unfolding refused_line
put_word-requires c =
    room_after (begun c.args.start) _ c.requires (two word _ (shorter (begun c.args.start) _ _ _ c.requires) c.put_slice-a.ensures c.put_word-b.ensures)

pub returns : goal.returns
unfolding refused_line
returns c =
    two (begun c.args.start) _ c.requires (two word _ (shorter (begun c.args.start) _ _ _ c.requires) c.put_slice-a.ensures c.put_word-b.ensures) c.put_word.ensures
