-- What a writer does with a lent buffer, whatever it writes: the bytes to write, or a refusal, settle its answer and the buffer.
use Rattle.std.specs.Prelude.{ℕ, ◌+◌, ◌≡◌, List, length, leb, if◌then◌else◌}
use Rattle.coding.specs.Words.{Answer, no, ok}
use Rattle.coding.specs.Bytes.{splice}

-- 15 where the bytes are more than the buffer has; a refusal comes first
unfoldable pub in_room : ℕ → Answer (List ℕ) → Answer (List ℕ)
in_room room (no k) = no k
in_room room (ok bs) = if leb (length bs) room then ok bs else no 15

-- the length of what is written
unfoldable pub length_of : Answer (List ℕ) → Answer ℕ
length_of (no k) = no k
length_of (ok bs) = ok (length bs)

-- the buffer afterwards: the bytes from byte 0 on, and all past them as it was; after a refusal, every byte as it was
unfoldable pub into_buffer : Answer (List ℕ) → List ℕ → List ℕ
into_buffer (no k) old = old
into_buffer (ok bs) old = splice old 0 bs

-- a writer of w into the buffer `old` says `said` and leaves `new`
pub record Written (w : Answer (List ℕ)) (old : List ℕ) (said : Answer ℕ) (new : List ℕ) : Type 0 where
  pub says : said ≡ length_of (in_room (length old) w)
  pub leaves : new ≡ into_buffer (in_room (length old) w) old

-- a put of bs at a place: it answers the next place; where bs does not fit, the place, and the buffer is as it was
pub record Put (bs old : List ℕ) (at next : ℕ) (new : List ℕ) : Type 0 where
  pub place : next ≡ (if leb (at + length bs) (length old) then at + length bs else at)
  pub bytes : new ≡ (if leb (at + length bs) (length old) then splice old at bs else old)
