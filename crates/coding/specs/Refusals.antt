-- Document 01, "What a call may say no with": the number of each refusal.
use Rattle.std.specs.Prelude.{ℕ, ◌≡◌}
use Rattle.coding.specs.declared.refusal.Refusal.{Refusal}
use Rattle.coding.specs.declared.refusal.Refusal.TheVariants as ref

abbrev pub number_of : Refusal → ℕ
number_of ref.PacketEnd = 1
number_of ref.FixedBit = 2
number_of ref.Cid = 3
number_of ref.Version = 4
number_of ref.Token = 5
number_of ref.ShortCid = 6
number_of ref.Length = 7
number_of ref.Sample = 8
number_of ref.UnexpectedEnd = 10
number_of ref.InvalidFrameId = 11
number_of ref.Malformed = 12
number_of ref.NoFrames = 13
number_of ref.Argument = 14
number_of ref.Room = 15
number_of ref.TooFar = 16

-- document 02, request 09: 9 is the number of none. A law as a statement, proved in proofs/
abbrev pub NineUnused : Type 0
NineUnused = (r : Refusal) → number_of r ≡ 9 → ⊥
