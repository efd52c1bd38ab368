-- One of something for each number space, and the space of a packet's kind: RFC 9000, 12.3.
use Rattle.std.proofs.Math.Option.{Option, none, some}
use Rattle.packet.specs.declared.header.SpaceId.{SpaceId}
use Rattle.packet.specs.declared.header.SpaceId.TheVariants as id
use Rattle.protect.specs.declared.Kind.{Kind}
use Rattle.protect.specs.declared.Kind.TheVariants as kind

pub record Each (A : Type 0) : Type 0 where
  pub initial : A
  pub handshake : A
  pub «data» : A

-- the same for all three
abbrev pub all : {A : Type 0} → A → Each A
all a = record { initial = a; handshake = a; «data» = a }

-- that of a space
abbrev pub of : {A : Type 0} → Each A → SpaceId → A
of x id.Initial = x.initial
of x id.Handshake = x.handshake
of x id.Data = x.«data»

-- with that of a space replaced
abbrev pub put : {A : Type 0} → Each A → SpaceId → A → Each A
put x id.Initial a = record { initial = a; handshake = x.handshake; «data» = x.«data» }
put x id.Handshake a = record { initial = x.initial; handshake = a; «data» = x.«data» }
put x id.Data a = record { initial = x.initial; handshake = x.handshake; «data» = a }

-- 12.3: 0-RTT and 1-RTT packets are in the application data space; Version Negotiation and Retry packets have no packet number
abbrev pub space_for : Kind → Option SpaceId
space_for kind.Initial = some id.Initial
space_for kind.ZeroRtt = some id.Data
space_for kind.Handshake = some id.Handshake
space_for kind.Retry = none
space_for kind.Short = some id.Data
space_for kind.VersionNegotiate = none
