-- Where the first packet of a datagram ends: RFC 9000, 12.2 and 17.2.
use Rattle.std.specs.Prelude.{ℕ, ◌-◌, List, Bool, length, ltb, if◌then◌else◌}
use Rattle.std.proofs.Math.Option.{Option, none, some}
use Rattle.coding.specs.Words.{and_then, Answer, no, ok}
use Rattle.coding.specs.Reading.{take_at}
use Rattle.coding.specs.declared.Place.{Place}
use Rattle.packet.specs.TypeBits.{PacketType, type_of}
use Rattle.packet.specs.Header.{Header, initial, zero_rtt, handshake, retry, short, negotiate, Outcome, refused_header, header_by, length_in}

-- the header of the first packet, the packet, and the rest
pub record Split : Type 0 where
  pub header : Outcome
  pub packet : Place
  pub rest : Option Place

abbrev pub nowhere : Place
nowhere = record { start = 0; len = 0 }

-- what follows the first n bytes exists only if it has a byte
unfoldable pub rest_at : List ℕ → ℕ → Option Place
rest_at s n = if ltb n (length s) then some (record { start = n; len = length s - n }) else none

-- a packet of n bytes
unfoldable pub cut_at : Outcome → List ℕ → ℕ → Split
cut_at h s n = record { header = h; packet = record { start = 0; len = n }; rest = rest_at s n }

-- a refusal: no packet, and no rest
unfoldable pub no_packet : Outcome → Split
no_packet h = record { header = h; packet = nowhere; rest = none }

-- with a Length, it ends so many bytes past its header, or is refused 7; without, it takes the whole datagram
unfoldable pub split_by : Option ℕ → List ℕ → Outcome → Split
split_by none s h = cut_at h s (length s)
split_by (some n) s h = and_then (take_at n s h.end) (no_packet (refused_header 7)) (λ payload end. cut_at h s end)

unfoldable pub split_on : Answer Header → List ℕ → Outcome → Split
split_on (no k) s h = no_packet h
split_on (ok x) s h = split_by (length_in (ok x)) s h

unfoldable pub split_with : (ℕ → ℕ → PacketType) → List ℕ → ℕ → List ℕ → Bool → Split
split_with types s local versions grease = split_on (header_by types s local versions grease).said s (header_by types s local versions grease)

abbrev pub split_at : List ℕ → ℕ → List ℕ → Bool → Split
split_at = split_with type_of

-- the token's place; the empty one where there is no token
abbrev pub token_in : Answer Header → Place
token_in (no k) = nowhere
token_in (ok (initial token len)) = token
token_in (ok (zero_rtt len)) = nowhere
token_in (ok (handshake len)) = nowhere
token_in (ok retry) = nowhere
token_in (ok (short spin)) = nowhere
token_in (ok (negotiate bits)) = nowhere

-- the rest's place; the empty one where there is no rest
abbrev pub rest_in : Option Place → Place
rest_in none = nowhere
rest_in (some p) = p
