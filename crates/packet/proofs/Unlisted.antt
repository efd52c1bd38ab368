-- A header is refused 4 only where its version is not in the list, and not 0, whatever the type bits mean.
use mathlib.Core.Path.{◌≡◌}
use mathlib.Core.Option.{Option, none, some}
use Rattle.std.specs.Prelude.{ℕ, List, Bool, false, drop, length, eqb, leb, if◌then◌else◌}
use native.Mathlib.Omega.{arith}
use Rattle.coding.specs.Words.{Answer, no, ok}
use Rattle.coding.specs.Reading.{take_at}
use Rattle.coding.proofs.Rules.{if_all, then_all}
use Rattle.packet.specs.TypeBits.{PacketType, type_of}
use Rattle.packet.specs.Header.{Header, Outcome, refused_header, outside, listed, headed, header_by, header_at, length_in}
use Rattle.packet.specs.Split.{Split, cut_at, no_packet, split_by, split_on, split_with, split_at}
use Rattle.packet.specs.Walk.{PacketStep, at_end, step_on, stop_at, packet_step_at}
use Rattle.packet.proofs.Ways.{Ways, header_all}

module _ (versions : List ℕ) where
  abbrev Four : Outcome → Type 0
  Four o = o.said ≡ no 4 → (listed versions o.version ≡ false) × (o.version ≡ 0 → ⊥)

  four_ways : (s : List ℕ) → Ways s versions 1 Four
  unfolding headed
  four_ways s =
      record {
        refuses = λ k l other e. let i : k ≡ 4 = cc in absurd (other i);
        unlisted = λ dst src v c z e. (c, z);
        makes = λ dst src v h end w e. let z : ◌≡◌ {A = ℕ} 0 1 = cc in absurd (omega arith);
      }

  module _ (types : ℕ → ℕ → PacketType) (s : List ℕ) (local : ℕ) (grease : Bool) (e : (header_by types s local versions grease).said ≡ no 4) where
    four : (listed versions (header_by types s local versions grease).version ≡ false) × ((header_by types s local versions grease).version ≡ 0 → ⊥)
    four = header_all s versions Four types (four_ways s) local grease e

    pub four_unlisted : listed versions (header_by types s local versions grease).version ≡ false
    four_unlisted = four.0

    pub four_named : (header_by types s local versions grease).version ≡ 0 → ⊥
    four_named = four.1

-- ---- so 4 comes with a version that is not 0, from a split and from a step too

abbrev pub Named : Outcome → Type 0
Named o = o.said ≡ no 4 → o.version ≡ 0 → ⊥

refused_named : (k : ℕ) → (k ≡ 4 → ⊥) → Named (refused_header k)
refused_named k other e z = let i : k ≡ 4 = cc in other i

module _ (s : List ℕ) (h : Outcome) (n : Named h) where
  by_named : (m : Option ℕ) → Named (split_by m s h).header
  unfolding split_by cut_at no_packet
  by_named none = n
  by_named (some k) = then_all (λ (x : Split). Named x.header) (take_at k s h.end) _ _ (λ e. refused_named 7 (λ z. omega (arith, z))) (λ payload end e. n)

  on_named : (a : Answer Header) → Named (split_on a s h).header
  unfolding split_on no_packet
  on_named (no k) = n
  on_named (ok x) = by_named (length_in (ok x))

module _ (s : List ℕ) (local : ℕ) (versions : List ℕ) (grease : Bool) where
  pub header_named : Named (header_at s local versions grease)
  header_named = four_named versions type_of s local grease

  pub split_named : Named (split_at s local versions grease).header
  unfolding split_with
  split_named = on_named s _ header_named (header_at s local versions grease).said

pub step_named : (s : List ℕ) (at local : ℕ) (versions : List ℕ) (grease : Bool) → Named (packet_step_at s at local versions grease).header
unfolding packet_step_at stop_at step_on
step_named s at local versions grease =
    let P : PacketStep → Type 0 = λ x. Named x.header in
    let outside_step : PacketStep = stop_at at 14 in
    let empty_step : PacketStep = stop_at at 1 in
    let end_step : PacketStep = record { met = at_end; header = refused_header 1 } in
    let met_step : PacketStep = step_on at (split_at (drop at s) local versions grease) in
    if_all P (outside s local versions) outside_step (if eqb (length s) 0 then empty_step else if leb (length s) at then end_step else met_step) (λ b. refused_named 14 (λ z. omega (arith, z))) (λ b.
    if_all P (eqb (length s) 0) empty_step (if leb (length s) at then end_step else met_step) (λ c. refused_named 1 (λ z. omega (arith, z))) (λ c.
    if_all P (leb (length s) at) end_step met_step (λ d. refused_named 1 (λ z. omega (arith, z))) (λ d. split_named (drop at s) local versions grease)))
