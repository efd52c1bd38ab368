-- What the two type bits of a long header mean, by the version: RFC 9000, 17.2, table 5; for version 2, RFC 9369, 3.2.
use Rattle.std.specs.Prelude.{ℕ, eqb, if◌then◌else◌}

pub data PacketType : Type 0 where
  initial : PacketType
  zero_rtt : PacketType
  handshake : PacketType
  retry : PacketType

-- RFC 9000, table 5: version 1, and every version but 2
abbrev pub type_one : ℕ → PacketType
type_one bits = if eqb bits 0 then initial else if eqb bits 1 then zero_rtt else if eqb bits 2 then handshake else retry

-- and the bits of a type, for writing
abbrev pub bits_one : PacketType → ℕ
bits_one initial = 0
bits_one zero_rtt = 1
bits_one handshake = 2
bits_one retry = 3

-- RFC 9369, 3.1: the number of version 2
abbrev pub version_two : ℕ
version_two = 0x6b3343cf

-- RFC 9369, 3.2
abbrev pub type_two : ℕ → PacketType
type_two bits = if eqb bits 0 then retry else if eqb bits 1 then initial else if eqb bits 2 then zero_rtt else handshake

abbrev pub bits_two : PacketType → ℕ
bits_two initial = 1
bits_two zero_rtt = 2
bits_two handshake = 3
bits_two retry = 0

-- by the version
abbrev pub type_of : ℕ → ℕ → PacketType
type_of version bits = if eqb version version_two then type_two bits else type_one bits

abbrev pub bits_of : ℕ → PacketType → ℕ
bits_of version type = if eqb version version_two then bits_two type else bits_one type
