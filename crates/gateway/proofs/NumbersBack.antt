-- A step of the number ends over the surface is the call on the record of three itself: what it says and what it leaves are given back.
-- Of the spaces that it does not name, nothing is looked at, and they come back as they came.
use Prim.Native.Nat.{ℕ}
use mathlib.Core.Path.{◌≡◌, refl, ap, ◌∙◌}
use mathlib.Core.Bool.{Bool, true, false}
use mathlib.Core.Option.{Option, none, some}
use borrow.Author.Tests.{ne_eqb}
use Rattle.coding.specs.Words.{Answer, no, ok}
use Rattle.coding.proofs.Numbers.{Refuses}
use Rattle.number.proofs.Refusing.{send_refuses, acknowledge_refuses, accept_refuses, read_refuses}
use Rattle.number.specs.Cutting.{cut}
use Rattle.number.specs.Ends.{SoFar, none as nothing, at, base_of, Ends, Packet}
use Rattle.packet.specs.declared.header.SpaceId.{SpaceId}
use Rattle.packet.specs.declared.header.SpaceId.TheVariants as id
use Rattle.spaces.specs.Each.{Each, of, put, space_for}
use Rattle.spaces.specs.Calls.{Told, lifted, send_call, acknowledge_call, read_call, accept_call}
use Rattle.spaces.proofs.Lifts.{lifts_no, lifts}
use Rattle.spaces.proofs.Order.{refused_stays, others_stay, looks_at_one, same_stays, Both, either_order}
use Rattle.gateway.specs.Arguments.{kind_at}
use Rattle.gateway.specs.Numbers.{so_far, has_of, ends_in, ends_out, unkept, Numbers, numbers, in_numbers, each_in, each_out, refusal_in, numbers_in, answer_with, record_of, one_step}
use Rattle.gateway.specs.GivesBack.{spaces_in, call_back, packet_back, StepIsCall, RefusedIsSame, ReadIsSame, Step, step_on, names, OthersAsCame, OthersUnread, EitherOrder}
use Rattle.gateway.specs.declared.records.NumberEnds.{NumberEnds}
use Rattle.gateway.specs.declared.records.NumberSpaces.{NumberSpaces}
use Rattle.gateway.specs.declared.records.NumberAnswer.{NumberAnswer}

-- ---- the ends of one space

so_far_back : (x : SoFar) → so_far (has_of x) (base_of x) ≡ x
unfolding base_of
so_far_back nothing = refl
so_far_back (at n) = refl

-- ends that were handed back are those that the step left
pub ends_back : (e : Ends) → ends_in (ends_out e) ≡ e
ends_back e i = record { next = e.next; acked = so_far_back e.acked i; largest = so_far_back e.largest i }

of_in : (x : NumberSpaces) (s : SpaceId) → of (spaces_in x) s ≡ ends_in (of (each_in x) s)
of_in x id.Initial = refl
of_in x id.Handshake = refl
of_in x id.Data = refl

put_in : (x : NumberSpaces) (s : SpaceId) (e : NumberEnds) → spaces_in (each_out (put (each_in x) s e)) ≡ put (spaces_in x) s (ends_in e)
put_in x id.Initial e = refl
put_in x id.Handshake e = refl
put_in x id.Data e = refl

-- ---- a step of one space and its call

-- the step says in numbers what the call says, and leaves what it leaves
record AsCall {A : Type 0} (say : A → Numbers) (step : Told NumberEnds Numbers) (call : Told Ends A) : Type 0 where
  pub says : step.says ≡ in_numbers say call.says
  pub leaves : ends_in step.leaves ≡ call.leaves
  pub refuses : Refuses call.says

module _ {A : Type 0} (say : A → Numbers) (back : NumberAnswer → A) (given_back : (a : A) (y : Each NumberEnds) → back (answer_with 0 (say a) y) ≡ a) where
  module _ (f : NumberEnds → Told NumberEnds Numbers) (g : Ends → Told Ends A) (x : NumberSpaces) where
    in_space : (s : SpaceId) → AsCall say (f (of (each_in x) s)) (g (ends_in (of (each_in x) s)))
        → call_back back (record_of (lifted f (some s) (each_in x))) ≡ lifted g (some s) (spaces_in x)
    in_space s h = go (g (ends_in (of (each_in x) s))).says refl h.refuses
      where
        said : {b : Answer A} → (g (ends_in (of (each_in x) s))).says ≡ b → (g (of (spaces_in x) s)).says ≡ b
        said r = rw (of_in x s) r

        go : (b : Answer A) → (g (ends_in (of (each_in x) s))).says ≡ b → Refuses b → call_back back (record_of (lifted f (some s) (each_in x))) ≡ lifted g (some s) (spaces_in x)
        go (no k) r z =
            rw (lifts_no f (each_in x) s (h.says ∙ ap (in_numbers say) r), lifts_no g (spaces_in x) s (said r), ne_eqb k 0 z)
        go (ok a) r z =
            let leaves : ends_in (f (of (each_in x) s)).leaves ≡ (g (of (spaces_in x) s)).leaves = rw (of_in x s) h.leaves in
            rw (lifts f (each_in x) s (h.says ∙ ap (in_numbers say) r), lifts g (spaces_in x) s (said r), given_back a (put (each_in x) s (f (of (each_in x) s)).leaves), put_in x s (f (of (each_in x) s)).leaves, leaves)

    in_any : (o : Option SpaceId) → ((s : SpaceId) → o ≡ some s → AsCall say (f (of (each_in x) s)) (g (ends_in (of (each_in x) s))))
        → call_back back (record_of (lifted f o (each_in x))) ≡ lifted g o (spaces_in x)
    unfolding lifted
    in_any none h = refl
    in_any (some s) h = in_space s (h s refl)

-- ---- the four steps

module _ (e : NumberEnds) (n len value : ℕ) (u : unkept e ≡ false) where
  one_sends : AsCall (λ (p : Packet). numbers p.number p.carries.0 p.carries.1) (one_step 0 n len value e) (send_call (ends_in e))
  one_sends = rw u (record { says = refl; leaves = ends_back _; refuses = send_refuses (ends_in e) })

  one_acknowledges : AsCall (λ (_ : Unit {0}). numbers 0 0 0) (one_step 1 n len value e) (acknowledge_call n (ends_in e))
  one_acknowledges = rw u (record { says = refl; leaves = ends_back _; refuses = acknowledge_refuses (ends_in e) n })

  one_reads : AsCall (λ (m : ℕ). numbers m 0 0) (one_step 2 n len value e) (read_call (cut len value) (ends_in e))
  one_reads = rw u (record { says = refl; leaves = refl; refuses = read_refuses (ends_in e) (cut len value) })

  one_accepts : AsCall (λ (_ : Unit {0}). numbers 0 0 0) (one_step 3 n len value e) (accept_call n (ends_in e))
  one_accepts = rw u (record { says = refl; leaves = ends_back _; refuses = accept_refuses (ends_in e) n })

pub steps_as : StepIsCall
steps_as kind x n len value u =
    let o : Option SpaceId = space_for (kind_at kind) in
    record {
      sends = in_any _ packet_back (λ p y. refl) (one_step 0 n len value) send_call x o (λ s q. one_sends (of (each_in x) s) n len value (u s q));
      acknowledges = in_any _ (λ r. tt) (λ a y. refl) (one_step 1 n len value) (acknowledge_call n) x o (λ s q. one_acknowledges (of (each_in x) s) n len value (u s q));
      reads = in_any _ (λ r. r.number) (λ m y. refl) (one_step 2 n len value) (read_call (cut len value)) x o (λ s q. one_reads (of (each_in x) s) n len value (u s q));
      accepts = in_any _ (λ r. tt) (λ a y. refl) (one_step 3 n len value) (accept_call n) x o (λ s q. one_accepts (of (each_in x) s) n len value (u s q));
    }

-- ---- any step

abbrev one : Step → NumberEnds → Told NumberEnds Numbers
one p = one_step p.step p.number p.len p.value

pub refused_same : RefusedIsSame
refused_same p x h = go (lifted (one p) (names p) (each_in x)).says refl
  where
    go : (b : Answer Numbers) → (lifted (one p) (names p) (each_in x)).says ≡ b → (step_on p x).spaces ≡ x
    go (no k) r = ap each_out (refused_stays (one p) (names p) (each_in x) r)
    go (ok a) r = absurd (h (ap refusal_in r))

read_leaves : (n len value : ℕ) (e : NumberEnds) → (one_step 2 n len value e).leaves ≡ e
read_leaves n len value e = go (unkept e) refl
  where
    go : (b : Bool) → unkept e ≡ b → (one_step 2 n len value e).leaves ≡ e
    go true u = rw u
    go false u = rw u

pub read_same : ReadIsSame
read_same p x two =
    rw two (ap each_out (same_stays (one_step 2 p.number p.len p.value) (read_leaves p.number p.len p.value) (names p) (each_in x)))

pub others_as_came : OthersAsCame
others_as_came p x = others_stay (one p) (names p) (each_in x)

pub others_unread : OthersUnread
others_unread p x y s q e =
    let same = looks_at_one (one p) s (each_in x) (each_in y) e in
    rw q (ap (λ (a : Answer Numbers). (refusal_in a, numbers_in a)) same.says, same.leaves)

pub steps_either_order : EitherOrder
steps_either_order p q x apart =
    let same = either_order (one p) (one q) (names p) (names q) (each_in x) apart in (
      ap (λ (b : Both (Each NumberEnds) Numbers Numbers). (refusal_in b.first, numbers_in b.first)) same,
      ap (λ (b : Both (Each NumberEnds) Numbers Numbers). (refusal_in b.second, numbers_in b.second)) same,
      ap (λ (b : Both (Each NumberEnds) Numbers Numbers). each_out b.leaves) same,
    )
