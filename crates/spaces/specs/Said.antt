-- What each case of the code's answers says, in document 01's numbers and values.
use Rattle.std.specs.Prelude.{◌≡◌, Option, Some, None, Result, Ok, Err}
use Rattle.std.proofs.Math.Option as math
use Rattle.coding.specs.Refusals.{number_of}
use Rattle.coding.specs.declared.refusal.Refusal.{Refusal}
use Rattle.shared.specs.declared.kinds.CutNumber.{CutNumber}
use Rattle.shared.specs.declared.kinds.FullNumber.{FullNumber}
use Rattle.number.specs.Ends.{Packet}
use Rattle.number.specs.Said.{ends_of}
use Rattle.packet.specs.declared.header.SpaceId.{SpaceId}
use Rattle.coding.specs.declared.refusal.Refusal.TheVariants as refusal
use Rattle.number.specs.declared.ends.Space.{Space}
use Rattle.spaces.specs.Each.{of, put}
use Rattle.spaces.specs.Calls.{Spaces, Told, refused_all, done_all}
use Rattle.spaces.specs.declared.Spaces.{Spaces as Record}

abbrev pub in_of : Option SpaceId → math.Option SpaceId
in_of (Some s) = math.some s
in_of None = math.none

-- and back
abbrev pub id_in : math.Option SpaceId → Option SpaceId
id_in math.none = None
id_in (math.some s) = Some s

abbrev pub spaces_of : Record → Spaces
spaces_of r = record { initial = ends_of r.initial; handshake = ends_of r.handshake; «data» = ends_of r.«data» }

-- an answer, and the record afterwards
unfoldable pub sent_all_of : Result (FullNumber × CutNumber) Refusal → Record → Told Spaces Packet
sent_all_of (Ok (n, c)) r = done_all (record { number = n.0; carries = c }) (spaces_of r)
sent_all_of (Err why) r = refused_all (number_of why) (spaces_of r)

unfoldable pub kept_all_of : Result Unit Refusal → Record → Told Spaces Unit
kept_all_of (Ok u) r = done_all tt (spaces_of r)
kept_all_of (Err why) r = refused_all (number_of why) (spaces_of r)

-- a call of one space that takes it from s to t, in the record: where there is no space, 14; a refusal leaves the record
abbrev pub Stored : {A : Type 0} → SpaceId → Record → Result A Refusal → Space → Record → Type 0
Stored id x (Ok a) t y = spaces_of y ≡ put (spaces_of x) id (ends_of t)
Stored id x (Err why) t y = y ≡ x

abbrev pub Calls : {A : Type 0} → (Space → Result A Refusal → Space → Type 0) → math.Option SpaceId → Record → Result A Refusal → Record → Type 0
Calls step math.none x said y = (said ≡ Err refusal.Argument) × (y ≡ x)
Calls step (math.some id) x said y = (s : Space) × (t : Space) × (ends_of s ≡ of (spaces_of x) id) × step s said t × Stored id x said t y
