-- What each of the code's values says, in the documents' numbers.
use Rattle.std.specs.Prelude.{ℕ, ◌≡◌, Option, Some, None, Result, Ok, Err, IfErr}
use Rattle.coding.specs.Words.{Answer, no, ok}
use Rattle.coding.specs.Refusals.{number_of}
use Rattle.coding.specs.declared.reader.Reader.{Reader}
use Rattle.coding.specs.declared.refusal.Refusal.{Refusal}
use Rattle.shared.specs.Cid.{no_cid}
use Rattle.shared.specs.declared.cid.ConnectionId.{ConnectionId}
use Rattle.shared.specs.declared.codepoint.EcnCodepoint.{EcnCodepoint}
use Rattle.shared.specs.declared.codepoint.EcnCodepoint.TheVariants as ecn
use Rattle.shared.specs.declared.kinds.Side.{Side}
use Rattle.shared.specs.declared.kinds.Side.TheVariants as side
use Rattle.shared.specs.declared.kinds.Dir.{Dir}
use Rattle.shared.specs.declared.kinds.Dir.TheVariants as dir
use Rattle.shared.specs.declared.kinds.StreamId.{StreamId}

-- a CID's length; a refusal says the empty CID beside its number
unfoldable pub cid_made_of : Result ConnectionId Refusal → Answer ℕ × ConnectionId
cid_made_of (Ok c) = (ok c.len, c)
cid_made_of (Err why) = no_cid (number_of why)

-- the place past a CID that is read; likewise
unfoldable pub cid_read_of : Result ConnectionId Refusal → ℕ → Answer ℕ × ConnectionId
cid_read_of (Ok c) next = (ok next, c)
cid_read_of (Err why) next = no_cid (number_of why)

-- a read of a CID says `said`, and the reader stands past it; refused, it stays where it stood
pub record ReadsCid (said : Answer ℕ × ConnectionId) (old : Reader) (r : Result ConnectionId Refusal) (new : Reader) : Type 0 where
  pub says : cid_read_of r new.at ≡ said
  pub bytes : new.bytes ≡ old.bytes
  pub stays : IfErr r (λ why. new.at ≡ old.at)

abbrev pub ecn_of : EcnCodepoint → ℕ
ecn_of ecn.Ect0 = 0b10
ecn_of ecn.Ect1 = 0b01
ecn_of ecn.Ce = 0b11

abbrev pub ecn_read_of : Option EcnCodepoint → ℕ
ecn_read_of (Some e) = ecn_of e
ecn_read_of None = 0b00

abbrev pub side_bit : Side → ℕ
side_bit side.Client = 0
side_bit side.Server = 1

abbrev pub dir_bit : Dir → ℕ
dir_bit dir.Bi = 0
dir_bit dir.Uni = 1

unfoldable pub stream_of : Result StreamId Refusal → Answer ℕ
stream_of (Ok id) = ok id.0
stream_of (Err why) = no (number_of why)
