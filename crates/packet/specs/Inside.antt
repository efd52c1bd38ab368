-- What a split and the walk hand back lies inside the datagram: document 01, "From datagram to packets". These are laws about the
-- definitions; their proofs are split_inside, step_inside and walk_inside, in proofs/.
use Rattle.std.specs.Prelude.{ℕ, ◌+◌, ◌≤◌, ◌<◌, ◌≡◌, List, [], ◌∷◌, Bool, length}
use Rattle.std.proofs.Math.Option.{some}
use Rattle.coding.specs.declared.Place.{Place}
use Rattle.packet.specs.Header.{Outcome}
use Rattle.packet.specs.Split.{Split, split_at, token_in}
use Rattle.packet.specs.Walk.{packet, refused_at, PacketStep, packet_step_at, walk_at}

-- a header ends inside its packet of n bytes, and the token lies inside the header
pub record HeaderInside (n : ℕ) (o : Outcome) : Type 0 where
  pub end : o.end ≤ n
  pub token : (token_in o.said).start + (token_in o.said).len ≤ o.end

-- the packet stands from byte 0 on; a rest has a byte, and stands from the packet's end to the datagram's
pub record SplitInside (s : List ℕ) (x : Split) : Type 0 where
  pub starts : x.packet.start ≡ 0
  pub inside : x.packet.len ≤ length s
  pub rest : (p : Place) → x.rest ≡ some p → (0 < p.len) × ((p.start ≡ x.packet.len) × (p.start + p.len ≡ length s))
  pub header : HeaderInside x.packet.len x.header

-- a packet that a step at a place meets, in a datagram of n bytes: it stands there, has a byte, and ends inside
pub record PacketInside (n at start len : ℕ) (o : Outcome) : Type 0 where
  pub starts : start ≡ at
  pub some : 0 < len
  pub inside : start + len ≤ n
  pub header : HeaderInside len o

-- steps from a place on: each packet stands where the one before it ended, and the last ends with the datagram or before a refusal
pub data InLine (n : ℕ) : ℕ → List PacketStep → Type 0 where
  whole : {at : ℕ} → at ≡ n → InLine n at []
  tail_refused : {at : ℕ} {x : PacketStep} → x.met ≡ refused_at at → at ≤ n → InLine n at (x ∷ [])
  follows : {at start len : ℕ} {x : PacketStep} {xs : List PacketStep} → x.met ≡ packet start len → PacketInside n at start len x.header →
      InLine n (start + len) xs → InLine n at (x ∷ xs)

-- the three laws
abbrev pub SplitsInside : Type 0
SplitsInside = (s : List ℕ) (local : ℕ) (versions : List ℕ) (grease : Bool) → SplitInside s (split_at s local versions grease)

abbrev pub StepsInside : Type 0
StepsInside =
    (s : List ℕ) (local : ℕ) (versions : List ℕ) (grease : Bool) (at start len : ℕ) →
    (packet_step_at s at local versions grease).met ≡ packet start len → PacketInside (length s) at start len (packet_step_at s at local versions grease).header

abbrev pub WalksInside : Type 0
WalksInside = (s : List ℕ) (local : ℕ) (versions : List ℕ) (grease : Bool) → InLine (length s) 0 (walk_at s local versions grease)
