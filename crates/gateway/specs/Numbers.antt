-- The number ends of the three spaces over the surface. A step is a call of one space, lifted (spaces/specs/Calls): of the two others
-- no flag is looked at, and their fields come back as they came.
use Rattle.std.specs.Prelude.{ℕ, ◌≡◌, Bool, ◌||◌, ltb, eqb, if◌then◌else◌, Result, Ok, Err}
use Rattle.coding.specs.Words.{Answer, no, ok}
use Rattle.coding.specs.Refusals.{number_of}
use Rattle.coding.specs.declared.refusal.Refusal.{Refusal}
use Rattle.coding.specs.declared.refusal.Refusal.TheVariants as refusal
use Rattle.shared.specs.declared.kinds.CutNumber.{CutNumber}
use Rattle.number.specs.Cutting.{cut}
use Rattle.number.specs.Ends.{SoFar, none, at, base_of, Ends, Call, send_by, acknowledge_by, read_by, accept_by}
use Rattle.spaces.specs.Each.{Each, space_for}
use Rattle.spaces.specs.Calls.{Told, refused_all, lifted}
use Rattle.gateway.specs.Arguments.{kind_at}
use Rattle.gateway.specs.declared.numbers.NumberStep.{NumberStep}
use Rattle.gateway.specs.declared.numbers.NumberStep.TheVariants as does
use Rattle.gateway.specs.declared.records.NumberEnds.{NumberEnds}
use Rattle.gateway.specs.declared.records.NumberSpaces.{NumberSpaces}
use Rattle.gateway.specs.declared.records.NumberAnswer.{NumberAnswer}

-- ---- the ends of one space

-- a largest number counts only beside a flag of 1
abbrev pub so_far : ℕ → ℕ → SoFar
so_far has n = if eqb has 0 then none else at n

abbrev pub has_of : SoFar → ℕ
has_of none = 0
has_of (at n) = 1

abbrev pub ends_in : NumberEnds → Ends
ends_in e = record { next = e.next; acked = so_far e.has_acked e.acked; largest = so_far e.has_largest e.largest }

abbrev pub ends_out : Ends → NumberEnds
ends_out e =
    record {
      next = e.next;
      acked = base_of e.acked;
      largest = base_of e.largest;
      has_acked = has_of e.acked;
      has_largest = has_of e.largest;
    }

-- a flag that is neither 0 nor 1
abbrev pub unkept : NumberEnds → Bool
unkept e = ltb 1 e.has_acked || ltb 1 e.has_largest

-- ---- a step in one space

-- what a step says: a full number; a cut one, by its length and its value. What it does not say is 0
pub record Numbers : Type 0 where
  pub number : ℕ
  pub len : ℕ
  pub value : ℕ

abbrev pub numbers : ℕ → ℕ → ℕ → Numbers
numbers n len value = record { number = n; len = len; value = value }

abbrev pub in_numbers : {A : Type 0} → (A → Numbers) → Answer A → Answer Numbers
in_numbers f (no k) = no k
in_numbers f (ok a) = ok (f a)

-- sending says the number that was used up, and what of it goes into the packet
abbrev pub send_step : NumberEnds → Told NumberEnds Numbers
send_step e =
    let call = send_by (ends_in e) in
    record { says = in_numbers (λ p. numbers p.number p.carries.0 p.carries.1) call.says; leaves = ends_out call.leaves }

-- acknowledging and accepting leave the ends alone to say
abbrev pub kept_step : Call Unit → Told NumberEnds Numbers
kept_step call = record { says = in_numbers (λ _. numbers 0 0 0) call.says; leaves = ends_out call.leaves }

-- reading says the full number, and leaves the ends as they came
abbrev pub read_step : CutNumber → NumberEnds → Told NumberEnds Numbers
read_step c e = record { says = in_numbers (λ n. numbers n 0 0) (read_by (ends_in e) c); leaves = e }

-- 0 send, 1 acknowledge, 2 read, 3 accept; no other step is
abbrev pub step_by : ℕ → ℕ → ℕ → ℕ → NumberEnds → Told NumberEnds Numbers
step_by step n len value e =
    if eqb step 0 then send_step e else
    if eqb step 1 then kept_step (acknowledge_by (ends_in e) n) else
    if eqb step 2 then read_step (cut len value) e else
    if eqb step 3 then kept_step (accept_by (ends_in e) n) else
    refused_all 14 e

-- a step with what it takes
abbrev pub step_of : NumberStep → NumberEnds → Told NumberEnds Numbers
step_of does.Send e = send_step e
step_of (does.Acknowledge n) e = kept_step (acknowledge_by (ends_in e) n.0)
step_of (does.Read c) e = read_step c e
step_of (does.Accept n) e = kept_step (accept_by (ends_in e) n.0)

-- the code takes a step by its number for this one, or refuses it
abbrev pub StepTaken : ℕ → ℕ → ℕ → ℕ → Result NumberStep Refusal → Type 0
StepTaken step n len value (Ok s) = (e : NumberEnds) → step_by step n len value e ≡ step_of s e
StepTaken step n len value (Err why) = ((e : NumberEnds) → step_by step n len value e ≡ refused_all 14 e) × (why ≡ refusal.Argument)

abbrev pub one_step : ℕ → ℕ → ℕ → ℕ → NumberEnds → Told NumberEnds Numbers
one_step step n len value e = if unkept e then refused_all 14 e else step_by step n len value e

-- ---- the record of three

abbrev pub each_in : NumberSpaces → Each NumberEnds
each_in x = record { initial = x.initial; handshake = x.handshake; «data» = x.«data» }

abbrev pub each_out : Each NumberEnds → NumberSpaces
each_out x = record { initial = x.initial; handshake = x.handshake; «data» = x.«data» }

abbrev pub refusal_in : Answer Numbers → ℕ
refusal_in (no k) = k
refusal_in (ok a) = 0

abbrev pub numbers_in : Answer Numbers → Numbers
numbers_in (no k) = numbers 0 0 0
numbers_in (ok a) = a

abbrev pub answer_with : ℕ → Numbers → Each NumberEnds → NumberAnswer
answer_with k a x = record { refusal = k; number_value = a.value; number_len = a.len; number = a.number; spaces = each_out x }

abbrev pub record_of : Told (Each NumberEnds) Numbers → NumberAnswer
record_of t = answer_with (refusal_in t.says) (numbers_in t.says) t.leaves

-- what the code answers to a step of the record x, with a refusal as a record too
abbrev pub step_said : Result NumberAnswer Refusal → NumberSpaces → NumberAnswer
step_said (Ok a) x = a
step_said (Err why) x = answer_with (number_of why) (numbers 0 0 0) (each_in x)

abbrev pub number_for : ℕ → ℕ → NumberSpaces → ℕ → ℕ → ℕ → NumberAnswer
number_for step kind x n len value = record_of (lifted (one_step step n len value) (space_for (kind_at kind)) (each_in x))
