-- Stream ids: RFC 9000, 2.1.
use Rattle.std.specs.Prelude.{ℕ, ◌+◌, ◌*◌, ◌/◌, ◌%◌, ◌^◌, ltb, if◌then◌else◌}
use Rattle.coding.specs.Words.{Answer, no, ok}

-- the least significant bit identifies the initiator: 0 the client, 1 the server
unfoldable pub initiator_of : ℕ → ℕ
initiator_of id = id % 2

-- the second least significant bit distinguishes bidirectional streams, 0, from unidirectional ones, 1
unfoldable pub dir_of : ℕ → ℕ
dir_of id = id / 2 % 2

-- the streams of each type are numbered from 0 on by the bits above
unfoldable pub index_of : ℕ → ℕ
index_of id = id / 4

-- the id of these three
unfoldable pub stream_id : ℕ → ℕ → ℕ → ℕ
stream_id initiator dir index = index * 4 + dir * 2 + initiator

-- a stream id is an integer of 62 bits: 14 for an index from 2^60 on
unfoldable pub stream_made : ℕ → ℕ → ℕ → Answer ℕ
stream_made initiator dir index = if ltb index (2 ^ 60) then ok (stream_id initiator dir index) else no 14
