-- The tables of type bits and their inverses, by the version.
use Rattle.std.specs.Prelude.{if◌then◌else◌}
use mathlib.Core.Path.{◌≡◌, refl}
use Prim.Native.Nat.{ℕ, zero, suc, ◌+◌, ◌%◌, ◌<◌}
use native.Mathlib.Omega.{arith}
use lib.Dec.{eqb}
use mathlib.Core.Bool.{Bool, true, false}
use borrow.Author.Tests.{ne_eqb}
use Rattle.packet.specs.TypeBits.{PacketType, initial, zero_rtt, handshake, retry, type_one, bits_one, version_two, type_two, bits_two, type_of, bits_of}

-- a table of types with its inverse: each type has its two bits, and each two bits their type
pub record Table (types : ℕ → PacketType) (bits : PacketType → ℕ) : Type 0 where
  pub back : (t : PacketType) → types (bits t) ≡ t
  pub two : (t : PacketType) → bits t < 4
  pub forth : (b : ℕ) → b < 4 → bits (types b) ≡ b

-- one for each version: what the header laws are proved over
abbrev pub Tables : (ℕ → ℕ → PacketType) → (ℕ → PacketType → ℕ) → Type 0
Tables types bits = (version : ℕ) → Table (types version) (bits version)

-- ---- the two tables

-- by the four types, and by the four values of two bits
each : (P : PacketType → Type 0) → P initial → P zero_rtt → P handshake → P retry → (t : PacketType) → P t
each P i z h r initial = i
each P i z h r zero_rtt = z
each P i z h r handshake = h
each P i z h r retry = r

below_four : (P : ℕ → Type 0) → P 0 → P 1 → P 2 → P 3 → (b : ℕ) → b < 4 → P b
below_four P p q r s zero h = p
below_four P p q r s (suc zero) h = q
below_four P p q r s (suc (suc zero)) h = r
below_four P p q r s (suc (suc (suc zero))) h = s
below_four P p q r s (suc (suc (suc (suc b)))) h = absurd (omega arith)

one_table : Table type_one bits_one
one_table =
    record {
      back = each (λ t. type_one (bits_one t) ≡ t) refl refl refl refl;
      two = each (λ t. bits_one t < 4) (omega arith) (omega arith) (omega arith) (omega arith);
      forth = below_four (λ b. bits_one (type_one b) ≡ b) refl refl refl refl;
    }

two_table : Table type_two bits_two
two_table =
    record {
      back = each (λ t. type_two (bits_two t) ≡ t) refl refl refl refl;
      two = each (λ t. bits_two t < 4) (omega arith) (omega arith) (omega arith) (omega arith);
      forth = below_four (λ b. bits_two (type_two b) ≡ b) refl refl refl refl;
    }

-- version 2's bits are version 1's and one more, modulo 4
pub one_more : (t : PacketType) → bits_two t ≡ (bits_one t + 1) % 4
one_more = each (λ t. bits_two t ≡ (bits_one t + 1) % 4) refl refl refl refl

-- ---- by the version

pub version_two_law : (bits : ℕ) → type_of version_two bits ≡ type_two bits
version_two_law bits = refl

pub bits_two_law : (t : PacketType) → bits_of version_two t ≡ bits_two t
bits_two_law t = refl

module _ (version : ℕ) (other : version ≡ version_two → ⊥) where
  pub version_other : (bits : ℕ) → type_of version bits ≡ type_one bits
  version_other bits = rw (ne_eqb version version_two other)

  pub bits_other : (t : PacketType) → bits_of version t ≡ bits_one t
  bits_other t = rw (ne_eqb version version_two other)

-- the two maps are each other's inverse, whatever the version
pub tables : Tables type_of bits_of
tables version = go (eqb version version_two)
  where
    go : (b : Bool) → Table (λ bits. if b then type_two bits else type_one bits) (λ t. if b then bits_two t else bits_one t)
    go true = two_table
    go false = one_table
