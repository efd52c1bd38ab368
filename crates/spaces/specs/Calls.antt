-- The calls on the record of three number spaces: each is a call of one space, lifted.
use Rattle.std.specs.Prelude.{ℕ}
use Rattle.std.proofs.Math.Option.{Option, none, some}
use Rattle.coding.specs.Words.{Answer, no, ok}
use Rattle.shared.specs.declared.kinds.CutNumber.{CutNumber}
use Rattle.number.specs.Ends.{Ends, fresh_ends, Call, Packet, send_by, acknowledge_by, read_by, accept_by}
use Rattle.packet.specs.declared.header.SpaceId.{SpaceId}
use Rattle.protect.specs.declared.Kind.{Kind}
use Rattle.spaces.specs.Each.{Each, all, of, put, space_for}

-- ---- any call of one space, in the record

-- what a call says, and what it leaves: number's `Call`, whatever it is that a call leaves
pub record Told (S A : Type 0) : Type 0 where
  pub says : Answer A
  pub leaves : S

abbrev pub refused_all : {S A : Type 0} → ℕ → S → Told S A
refused_all k x = record { says = no k; leaves = x }

abbrev pub done_all : {S A : Type 0} → A → S → Told S A
done_all a x = record { says = ok a; leaves = x }

-- a refused call leaves the whole record as it was; else only that space is replaced
unfoldable pub within : {E A : Type 0} → Each E → SpaceId → Answer A → E → Told (Each E) A
within x s (no k) e = refused_all k x
within x s (ok a) e = done_all a (put x s e)

-- where there is no space, it is 14
unfoldable pub lifted : {E A : Type 0} → (E → Told E A) → Option SpaceId → Each E → Told (Each E) A
lifted f none x = refused_all 14 x
lifted f (some s) x = within x s (f (of x s)).says (f (of x s)).leaves

-- ---- the calls of one space

abbrev pub told : {A : Type 0} → Call A → Told Ends A
told c = record { says = c.says; leaves = c.leaves }

abbrev pub send_call : Ends → Told Ends Packet
send_call e = told (send_by e)

abbrev pub acknowledge_call : ℕ → Ends → Told Ends Unit
acknowledge_call n e = told (acknowledge_by e n)

-- reading leaves the ends as they were
abbrev pub read_call : CutNumber → Ends → Told Ends ℕ
read_call c e = record { says = read_by e c; leaves = e }

abbrev pub accept_call : ℕ → Ends → Told Ends Unit
accept_call n e = told (accept_by e n)

-- ---- the four calls, by a packet's kind

abbrev pub Spaces : Type 0
Spaces = Each Ends

abbrev pub fresh_spaces : Spaces
fresh_spaces = all fresh_ends

abbrev pub send_in : Spaces → Kind → Told Spaces Packet
send_in x k = lifted send_call (space_for k) x

abbrev pub acknowledge_in : Spaces → Kind → ℕ → Told Spaces Unit
acknowledge_in x k n = lifted (acknowledge_call n) (space_for k) x

abbrev pub read_in : Spaces → Kind → CutNumber → Told Spaces ℕ
read_in x k c = lifted (read_call c) (space_for k) x

abbrev pub accept_in : Spaces → Kind → ℕ → Told Spaces Unit
accept_in x k n = lifted (accept_call n) (space_for k) x
