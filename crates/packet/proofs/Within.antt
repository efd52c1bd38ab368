-- A header lies within its bytes and its token within it, whatever the type bits mean.
use mathlib.Core.Path.{◌≡◌, refl}
use Rattle.std.specs.Prelude.{ℕ, ◌≤◌, List, Bool}
use native.Mathlib.Omega.{arith}
use lib.ListN.{length}
use Rattle.coding.specs.Words.{no, ok}
use Rattle.shared.specs.declared.cid.ConnectionId.{ConnectionId}
use Rattle.packet.specs.TypeBits.{PacketType}
use Rattle.packet.specs.Header.{Header, Outcome, refused_header, headed, body_at, header_by}
use Rattle.packet.proofs.Ways.{Ends, Ways, body_all, header_all}
pub use Rattle.packet.proofs.Ways.{least}

-- a refusal's number is at most 14, and it has no end
abbrev pub Within : List ℕ → ℕ → Outcome → Type 0
Within s n o = ((h : Header) → o.said ≡ ok h → Ends s n h o.end) × ((k : ℕ) → o.said ≡ no k → (k ≤ 14) × (o.end ≡ 0))

module _ (s : List ℕ) where
  no_within : (n k : ℕ) (o : Outcome) → k ≤ 14 → o.end ≡ 0 → o.said ≡ no k → Within s n o
  no_within n k o l z e = (λ h p. let z : ◌≡◌ {A = ℕ} 0 1 = cc in absurd (omega arith), λ j p. let i : k ≡ j = cc in (omega arith, z))

  within_ways : (versions : List ℕ) (n : ℕ) → Ways s versions n (Within s n)
  unfolding headed
  within_ways versions n =
      record {
        refuses = λ k l other. no_within n k (refused_header k) l refl refl;
        unlisted = λ dst src v c z. no_within n 4 (record { said = no 4; dst = dst; src = src; version = v; end = 0 }) (omega arith) refl refl;
        makes = λ dst src v h end w. (
          λ x p. let e : h ≡ x = cc in rw e at w,
          λ j p. let z : ◌≡◌ {A = ℕ} 0 1 = cc in absurd (omega arith),
        );
      }

  module _ (types : ℕ → ℕ → PacketType) where
    pub body_within : (steer rest : ℕ) (versions : List ℕ) (v : ℕ) (dst src : ConnectionId) (at : ℕ) → 7 ≤ at → at ≤ length s
        → Within s at (body_at types steer rest s versions v dst src at)
    body_within steer rest versions v dst src at past h = body_all s versions (Within s at) types steer rest v dst src at past h (within_ways versions at)

    pub header_within : (local : ℕ) (versions : List ℕ) (grease : Bool) → Within s 1 (header_by types s local versions grease)
    header_within local versions grease = header_all s versions (Within s 1) types (within_ways versions 1) local grease
