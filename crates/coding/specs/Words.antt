-- The words of every definition: what a read finds, and what a call answers.
use Rattle.std.specs.Prelude.{ℕ, ◌^◌}

-- what a read at a place finds: a value and the place past it, or that the field is cut
-- (by itself that is refusal 10; in a header it is 1, 3 or 6)
pub data Got (A : Type 0) : Type 0 where
  cut : Got A
  got : A → ℕ → Got A

-- one read after the other: `stop` where the field is cut, else what follows
unfoldable pub and_then : {A B : Type 0} → Got A → B → (A → ℕ → B) → B
and_then cut stop next = stop
and_then (got a n) stop next = next a n

-- what a call answers: a value, or no, with the number of the refusal
pub data Answer (A : Type 0) : Type 0 where
  no : ℕ → Answer A
  ok : A → Answer A

-- the most bytes of a datagram, packet, payload, header or frame: what UDP's length field leaves
abbrev pub max_datagram : ℕ
max_datagram = 65527

-- packet numbers and integers are below this: RFC 9000, 12.3 and 16
abbrev pub number_end : ℕ
number_end = 2 ^ 62
