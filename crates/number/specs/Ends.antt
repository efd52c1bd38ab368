-- The two number ends of a space: what a call says, and what it leaves.
use Rattle.std.specs.Prelude.{ℕ, ◌+◌, ◌-◌, Bool, ◌&&◌, ltb, leb, if◌then◌else◌}
use Rattle.coding.specs.Words.{Answer, no, ok, number_end}
use Rattle.shared.specs.declared.kinds.CutNumber.{CutNumber}
use Rattle.number.specs.Cutting.{cut_made}
use Rattle.number.specs.Expanding.{expanded}

-- the largest number so far, where there is one
pub data SoFar : Type 0 where
  none : SoFar
  at : ℕ → SoFar

-- what a cut counts from: the largest acknowledged, 0 when none
unfoldable pub base_of : SoFar → ℕ
base_of none = 0
base_of (at m) = m

-- what a reading expects: the largest accepted + 1, 0 when none
unfoldable pub expected_of : SoFar → ℕ
expected_of none = 0
expected_of (at m) = m + 1

-- a smaller number than the largest so far leaves it as it is
unfoldable pub larger_of : SoFar → ℕ → SoFar
larger_of none n = at n
larger_of (at m) n = if ltb m n then at n else at m

-- both ends: the number that is sent next, the largest acknowledged; the largest accepted
pub record Ends : Type 0 where
  pub next : ℕ
  pub acked : SoFar
  pub largest : SoFar

abbrev pub fresh_ends : Ends
fresh_ends = record { next = 0; acked = none; largest = none }

-- what calls can have made: what is acknowledged was sent; and no number is past 2^62 - 1
unfoldable pub send_end : Ends → Bool
send_end e = leb e.next number_end && leb (expected_of e.acked) e.next

unfoldable pub receive_end : Ends → Bool
receive_end e = leb (expected_of e.largest) number_end

-- what a call says, and the ends that it leaves: after a refusal, as they were
pub record Call (A : Type 0) : Type 0 where
  pub says : Answer A
  pub leaves : Ends

abbrev pub refused : {A : Type 0} → ℕ → Ends → Call A
refused k e = record { says = no k; leaves = e }

abbrev pub done : {A : Type 0} → A → Ends → Call A
done a e = record { says = ok a; leaves = e }

-- a packet on the line: the number that it was sent with, and what of it the packet carries
pub record Packet : Type 0 where
  pub number : ℕ
  pub carries : CutNumber

-- only a number that is not refused is used up
unfoldable pub send_with : Ends → Answer CutNumber → Call Packet
send_with e (no k) = refused k e
send_with e (ok c) = done (record { number = e.next; carries = c }) (record { next = e.next + 1; acked = e.acked; largest = e.largest })

unfoldable pub send_by : Ends → Call Packet
send_by e = if send_end e then send_with e (cut_made e.next (base_of e.acked)) else refused 14 e

-- 14 for a number that was not sent
unfoldable pub acknowledge_by : Ends → ℕ → Call Unit
acknowledge_by e n =
    if send_end e then
    (if leb e.next n then refused 14 e else done tt (record { next = e.next; acked = larger_of e.acked n; largest = e.largest }))
    else refused 14 e

unfoldable pub read_by : Ends → CutNumber → Answer ℕ
read_by e c = expanded c (expected_of e.largest)

unfoldable pub accept_by : Ends → ℕ → Call Unit
accept_by e n =
    if receive_end e then
    (if ltb (number_end - 1) n then refused 14 e else done tt (record { next = e.next; acked = e.acked; largest = larger_of e.largest n }))
    else refused 14 e
