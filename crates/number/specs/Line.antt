-- A sender and a receiver in one number space, and the line between them: what was ever put on it can arrive at any time, any
-- number of times, or never.
use Rattle.std.specs.Prelude.{ℕ, ◌+◌, ◌-◌, ◌*◌, ◌^◌, ◌≤◌, ◌<◌, ◌≡◌, ◌↔◌}
use mathlib.Core.List.{List, [], ◌∷◌, Memᴰ}
use Rattle.coding.specs.Words.{ok, number_end}
use Rattle.number.specs.Ends.{Ends, fresh_ends, Packet, done, send_by, acknowledge_by, read_by, accept_by}

pub record World : Type 0 where
  pub sender : Ends
  pub receiver : Ends
  -- every packet that was sent so far
  pub sent : List Packet
  -- every number that the receiver accepted so far
  pub accepted : List ℕ
  -- every acknowledgement that was sent so far
  pub acks : List ℕ

abbrev pub fresh_world : World
fresh_world = record { sender = fresh_ends; receiver = fresh_ends; sent = []; accepted = []; acks = [] }

-- one step. A refused call is none: it leaves its ends as they were
pub data LineStep (w : World) : World → Type 0 where
  -- the sender sends its next number
  sends : {p : Packet} {e : Ends} → send_by w.sender ≡ done p e →
      LineStep w (record { sender = e; receiver = w.receiver; sent = p ∷ w.sent; accepted = w.accepted; acks = w.acks })
  -- a packet that was sent is delivered, read as it was sent, and accepted
  accepts : {p : Packet} {e : Ends} → Memᴰ p w.sent → read_by w.receiver p.carries ≡ ok p.number → accept_by w.receiver p.number ≡ done tt e →
      LineStep w (record { sender = w.sender; receiver = e; sent = w.sent; accepted = p.number ∷ w.accepted; acks = w.acks })
  -- the receiver acknowledges a number that it accepted
  acknowledges : {n : ℕ} → Memᴰ n w.accepted →
      LineStep w (record { sender = w.sender; receiver = w.receiver; sent = w.sent; accepted = w.accepted; acks = n ∷ w.acks })
  -- an acknowledgement that was sent is delivered
  hears : {n : ℕ} {e : Ends} → Memᴰ n w.acks → acknowledge_by w.sender n ≡ done tt e →
      LineStep w (record { sender = e; receiver = w.receiver; sent = w.sent; accepted = w.accepted; acks = w.acks })

pub data Reach : World → Type 0 where
  start : Reach fresh_world
  next : {w v : World} → Reach w → LineStep w v → Reach v

-- a delivered packet is read as it was sent
abbrev pub AsSent : World → Packet → Type 0
AsSent w p = read_by w.receiver p.carries ≡ ok p.number

-- every accepted number, and so the largest, is at most 2^(8k-1) - 2 above n; where nothing is accepted yet, this asks nothing
unfoldable pub Near : List ℕ → ℕ → ℕ → Type 0
Near accepted n k = (m : ℕ) → Memᴰ m accepted → m ≤ n + (2 ^ (8 * k - 1) - 2)

-- every accepted number, and so the largest, is below 2^62 - 2^(8k-1) - 1; where nothing is accepted yet, this asks nothing
unfoldable pub Low : List ℕ → ℕ → Type 0
Low accepted k = (m : ℕ) → Memᴰ m accepted → m < number_end - 2 ^ (8 * k - 1) - 1

-- "A fresh sender and receiver in one number space, over a line that loses, repeats and reorders packets and acknowledgements and
-- invents none; the sender counts 0, 1, 2 and cuts by 01's rule; the receiver accepts no packet it misread and acknowledges only
-- accepted ones. Then a delivered number cut to k bytes is read back as sent exactly when the largest accepted number is at most
-- 2^(8k-1) - 2 above it, or nothing is accepted yet."
-- Request 04: "Demand 3's "exactly when" then holds for a largest accepted number below 2^62 - 2^(8k-1) - 1. From there on a number
-- within the stated distance is still read as sent, but A.3 can also read an overtaken one rightly."
abbrev pub Delivery : Type 0
Delivery =
    (w : World) → Reach w → (p : Packet) → Memᴰ p w.sent →
    let near = Near w.accepted p.number p.carries.0 in
    (Low w.accepted p.carries.0 → AsSent w p ↔ near) × (near → AsSent w p)
