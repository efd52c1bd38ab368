-- A sender and a receiver with three number spaces each, and the line between them: what was ever put on it can arrive at any time,
-- any number of times, or never, and always in its own space.
use Rattle.std.specs.Prelude.{ℕ, ◌≡◌, ◌↔◌}
use Rattle.std.proofs.Math.Option.{some}
use mathlib.Core.List.{List, [], ◌∷◌, Memᴰ}
use Rattle.coding.specs.Words.{ok}
use Rattle.number.specs.Ends.{Packet}
use Rattle.number.specs.Line.{World, Near, Low}
use Rattle.packet.specs.declared.header.SpaceId.{SpaceId}
use Rattle.protect.specs.declared.Kind.{Kind}
use Rattle.spaces.specs.Each.{Each, all, of, put, space_for}
use Rattle.spaces.specs.Calls.{Spaces, fresh_spaces, done_all, send_in, acknowledge_in, read_in, accept_in}

-- number's `World`, with one of each for a space
pub record Worlds : Type 0 where
  pub sender : Spaces
  pub receiver : Spaces
  -- every packet that was sent so far
  pub sent : Each (List Packet)
  -- every number that the receiver accepted so far
  pub accepted : Each (List ℕ)
  -- every acknowledgement that was sent so far
  pub acks : Each (List ℕ)

abbrev pub fresh_worlds : Worlds
fresh_worlds = record { sender = fresh_spaces; receiver = fresh_spaces; sent = all []; accepted = all []; acks = all [] }

-- one more in a space
abbrev pub more : {A : Type 0} → Each (List A) → SpaceId → A → Each (List A)
more x s a = put x s (a ∷ of x s)

-- one step: a call of the record, with any kind of that space. A refused call is none: it leaves the record as it was
pub data LinesStep (w : Worlds) : Worlds → Type 0 where
  -- the sender sends the next number of a space
  sends : (k : Kind) {s : SpaceId} {p : Packet} {x : Spaces} → space_for k ≡ some s → send_in w.sender k ≡ done_all p x →
      LinesStep w (record { sender = x; receiver = w.receiver; sent = more w.sent s p; accepted = w.accepted; acks = w.acks })
  -- a packet that was sent in that space is delivered, read as it was sent, and accepted
  accepts : (k : Kind) {s : SpaceId} {p : Packet} {x : Spaces} → space_for k ≡ some s → Memᴰ p (of w.sent s)
      → (read_in w.receiver k p.carries).says ≡ ok p.number → accept_in w.receiver k p.number ≡ done_all tt x →
      LinesStep w (record { sender = w.sender; receiver = x; sent = w.sent; accepted = more w.accepted s p.number; acks = w.acks })
  -- the receiver acknowledges a number that it accepted, in that number's space
  acknowledges : (s : SpaceId) {n : ℕ} → Memᴰ n (of w.accepted s) →
      LinesStep w (record { sender = w.sender; receiver = w.receiver; sent = w.sent; accepted = w.accepted; acks = more w.acks s n })
  -- an acknowledgement that was sent is delivered to its own space
  hears : (k : Kind) {s : SpaceId} {n : ℕ} {x : Spaces} → space_for k ≡ some s → Memᴰ n (of w.acks s)
      → acknowledge_in w.sender k n ≡ done_all tt x →
      LinesStep w (record { sender = x; receiver = w.receiver; sent = w.sent; accepted = w.accepted; acks = w.acks })

pub data Reaches : Worlds → Type 0 where
  start : Reaches fresh_worlds
  next : {w v : Worlds} → Reaches w → LinesStep w v → Reaches v

-- one space of it
abbrev pub view : Worlds → SpaceId → World
view w s = record { sender = of w.sender s; receiver = of w.receiver s; sent = of w.sent s; accepted = of w.accepted s; acks = of w.acks s }

-- a packet that is delivered with this kind is read as it was sent
abbrev pub AsSentIn : Worlds → Kind → Packet → Type 0
AsSentIn w k p = (read_in w.receiver k p.carries).says ≡ ok p.number

-- "Demand 3 is proved once over the space and holds for each, with acknowledgements delivered to their own space": number's
-- `Delivery`, in the space of any kind, by the record's own reading
abbrev pub Deliveries : Type 0
Deliveries =
    (w : Worlds) → Reaches w → (k : Kind) (s : SpaceId) → space_for k ≡ some s → (p : Packet) → Memᴰ p (of w.sent s) →
    let near = Near (of w.accepted s) p.number p.carries.0 in
    (Low (of w.accepted s) p.carries.0 → AsSentIn w k p ↔ near) × (near → AsSentIn w k p)
