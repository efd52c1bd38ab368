-- The walk over a datagram's packets: RFC 9000, 12.2.
use Rattle.std.specs.Prelude.{ℕ, zero, suc, ◌+◌, List, [], ◌∷◌, Bool, length, drop, leb, eqb, if◌then◌else◌}
use Rattle.std.proofs.Math.Option.{Option-elim}
use Rattle.coding.specs.Words.{Answer, no, ok}
use Rattle.packet.specs.Header.{Header, Outcome, refused_header, outside}
use Rattle.packet.specs.Split.{Split, split_at}

-- what a step meets: the end; a packet, by its start and length; a refusal, by its start
pub data Met : Type 0 where
  at_end : Met
  packet : ℕ → ℕ → Met
  refused_at : ℕ → Met

-- and the header there; at the end, that of no bytes
pub record PacketStep : Type 0 where
  pub met : Met
  pub header : Outcome

unfoldable pub met_on : Answer Header → ℕ → ℕ → Met
met_on (no k) start len = refused_at start
met_on (ok h) start len = packet start len

-- a split of what stands from a place on
unfoldable pub step_on : ℕ → Split → PacketStep
step_on start x = record { met = met_on x.header.said start x.packet.len; header = x.header }

unfoldable pub stop_at : ℕ → ℕ → PacketStep
stop_at start k = record { met = refused_at start; header = refused_header k }

-- a datagram is split until no rest remains or a packet is refused; it has no more packets than bytes
unfoldable pub packets_from : ℕ → ℕ → List ℕ → ℕ → List ℕ → Bool → List PacketStep
packets_from zero start s local versions grease = step_on start (split_at s local versions grease) ∷ []
packets_from (suc turns) start s local versions grease =
    step_on start (split_at s local versions grease)
    ∷ Option-elim (split_at s local versions grease).rest [] (λ p. packets_from turns (start + p.start) (drop p.start s) local versions grease)

unfoldable pub walk_at : List ℕ → ℕ → List ℕ → Bool → List PacketStep
walk_at s local versions grease = packets_from (length s) 0 s local versions grease

-- one step at a place: 14, then 1 for no bytes at all, then the end, else the packet from there on
unfoldable pub packet_step_at : List ℕ → ℕ → ℕ → List ℕ → Bool → PacketStep
packet_step_at s at local versions grease =
    if outside s local versions then stop_at at 14 else
    if eqb (length s) 0 then stop_at at 1 else
    if leb (length s) at then record { met = at_end; header = refused_header 1 } else
    step_on at (split_at (drop at s) local versions grease)
