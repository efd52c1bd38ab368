use Prim.Native.Nat.{◌-◌}
use mathlib.Core.Path.{◌≡◌}
use lib.ListN.{length}
use Rattle.cases.specs.Records.{words_from}
use Rattle.cases.proofs.record.words.Given as goal

-- Each number goes to its place.
abbrev pub invariant-loop-n : goal.invariant-loop-n
invariant-loop-n l = words_from (length l.initial.list) l.bytes 0 (0, l.initial.list) ≡ words_from (length l.initial.list - l.n) l.r.bytes.now l.r.at (l.n, l.list)
