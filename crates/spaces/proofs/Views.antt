-- Each space of a line of three is a line of one, and any three lines of one make a line of three; so demand 3 holds in each.
use mathlib.Core.Path.{◌≡◌, refl, sym, subst, ◌∙◌}
use mathlib.Core.Option.{some}
use mathlib.Core.List.{◌∷◌}
use mathlib.Core.Logic.{◌↔◌, ⊎_elim}
use Rattle.shared.specs.declared.kinds.CutNumber.{CutNumber}
use Rattle.number.specs.Ends.{send_by, acknowledge_by, read_by, accept_by}
use Rattle.number.specs.Line.{World, fresh_world, LineStep, Reach, Delivery}
use Rattle.number.specs.Line.LineStep.{sends as one_sends, accepts as one_accepts, acknowledges as one_acknowledges, hears as one-hears}
use Rattle.number.specs.Line.Reach.{start as one-start, next as one-next}
use Rattle.number.proofs.Delivery.{delivery}
use Rattle.packet.specs.declared.header.SpaceId.{SpaceId}
use Rattle.packet.specs.declared.header.SpaceId.TheVariants as id
use Rattle.protect.specs.declared.Kind.{Kind}
use Rattle.protect.specs.declared.Kind.TheVariants as kind
use Rattle.spaces.specs.Each.{of, put, space_for}
use Rattle.spaces.specs.Calls.{Spaces, read_call, read_in}
use Rattle.spaces.specs.Lines.{Worlds, LinesStep, Reaches, view, Deliveries}
use Rattle.spaces.specs.Lines.LinesStep.{sends, accepts, acknowledges, hears}
use Rattle.spaces.specs.Lines.Reaches.{start, next}
use Rattle.spaces.proofs.Lifts.{lifted_says, lifts_call, call_of}
use Rattle.spaces.proofs.Puts.{same?, put_same, put_other, put_back}

-- ---- onto one space

-- the record's reading is the space's
pub reads_as : (x : Spaces) (k : Kind) {s : SpaceId} (c : CutNumber) → space_for k ≡ some s → (read_in x k c).says ≡ read_by (of x s) c
reads_as x k {s} c q = rw q (lifted_says (read_call c) x s)

-- a step moves one space, as a step of one space does, and leaves the others as they were
pub record Moved (w v : Worlds) : Type 0 where
  pub space : SpaceId
  pub step : LineStep (view w space) (view v space)
  pub others : (t : SpaceId) → (space ≡ t → ⊥) → view v t ≡ view w t

pub moved : {w v : Worlds} → LinesStep w v → Moved w v
moved {w} (sends k {s} {p} {x} q call) =
    let l = call_of send_by w.sender s (rw q at call) in
    record {
      space = s;
      step = rw (l.is, put_same w.sender s l.ends, put_same w.sent s (p ∷ of w.sent s)) (one_sends l.call);
      others = λ t n. rw (l.is, put_other w.sender s t l.ends n, put_other w.sent s t (p ∷ of w.sent s) n);
    }
moved {w} (accepts k {s} {p} {x} q m read call) =
    let l = call_of (λ e. accept_by e p.number) w.receiver s (rw q at call) in
    record {
      space = s;
      step =
          rw (l.is, put_same w.receiver s l.ends, put_same w.accepted s (p.number ∷ of w.accepted s))
          (one_accepts m (sym (reads_as w.receiver k p.carries q) ∙ read) l.call);
      others = λ t n. rw (l.is, put_other w.receiver s t l.ends n, put_other w.accepted s t (p.number ∷ of w.accepted s) n);
    }
moved {w} (acknowledges s {n} m) =
    record {
      space = s;
      step = rw (put_same w.acks s (n ∷ of w.acks s)) (one_acknowledges m);
      others = λ t d. rw (put_other w.acks s t (n ∷ of w.acks s) d);
    }
moved {w} (hears k {s} {n} {x} q m call) =
    let l = call_of (λ e. acknowledge_by e n) w.sender s (rw q at call) in
    record {
      space = s;
      step = rw (l.is, put_same w.sender s l.ends) (one-hears m l.call);
      others = λ t d. rw (l.is, put_other w.sender s t l.ends d);
    }

pub in_each : {w : Worlds} → Reaches w → (t : SpaceId) → Reach (view w t)
in_each start id.Initial = one-start
in_each start id.Handshake = one-start
in_each start id.Data = one-start
in_each (next {w} {v} r m) t =
    let d = moved m in
    ⊎_elim
    (λ e. one-next (in_each r t) (subst (λ (u : SpaceId). LineStep (view w u) (view v u)) e d.step))
    (λ n. subst Reach (sym (d.others t n)) (in_each r t))
    (same? d.space t)

-- demand 3, in each space
pub deliveries : Deliveries
deliveries w r k s q p m = rw (reads_as w.receiver k p.carries q) (delivery (view w s) (in_each r s) p m)

-- ---- from one space

-- a kind of each space
abbrev pub kind_for : SpaceId → Kind
kind_for id.Initial = kind.Initial
kind_for id.Handshake = kind.Handshake
kind_for id.Data = kind.Short

kind_for_law : (s : SpaceId) → space_for (kind_for s) ≡ some s
kind_for_law id.Initial = refl
kind_for_law id.Handshake = refl
kind_for_law id.Data = refl

-- with one space's world replaced
abbrev pub with : Worlds → SpaceId → World → Worlds
with w s v =
    record {
      sender = put w.sender s v.sender;
      receiver = put w.receiver s v.receiver;
      sent = put w.sent s v.sent;
      accepted = put w.accepted s v.accepted;
      acks = put w.acks s v.acks;
    }

-- every step of one space is one of the three
pub steps : (w : Worlds) (s : SpaceId) {v : World} → LineStep (view w s) v → LinesStep w (with w s v)
steps w s (one_sends {p} {e} q) =
    rw (put_back w.receiver s, put_back w.accepted s, put_back w.acks s)
    (sends (kind_for s) {s = s} {p = p} {x = put w.sender s e} (kind_for_law s) (rw (kind_for_law s) (lifts_call send_by w.sender s q)))
steps w s (one_accepts {p} {e} m read q) =
    rw (put_back w.sender s, put_back w.sent s, put_back w.acks s)
    (accepts (kind_for s) {s = s} {p = p} {x = put w.receiver s e} (kind_for_law s) m (reads_as w.receiver (kind_for s) p.carries (kind_for_law s) ∙ read)
    (rw (kind_for_law s) (lifts_call (λ e. accept_by e p.number) w.receiver s q)))
steps w s (one_acknowledges m) =
    rw (put_back w.sender s, put_back w.receiver s, put_back w.sent s, put_back w.accepted s) (acknowledges s m)
steps w s (one-hears {n} {e} m q) =
    rw (put_back w.receiver s, put_back w.sent s, put_back w.accepted s, put_back w.acks s)
    (hears (kind_for s) {s = s} {n = n} {x = put w.sender s e} (kind_for_law s) m (rw (kind_for_law s) (lifts_call (λ e. acknowledge_by e n) w.sender s q)))

-- three lines of one space, as one of three
abbrev pub trio : World → World → World → Worlds
trio a b c =
    record {
      sender = record { initial = a.sender; handshake = b.sender; «data» = c.sender };
      receiver = record { initial = a.receiver; handshake = b.receiver; «data» = c.receiver };
      sent = record { initial = a.sent; handshake = b.sent; «data» = c.sent };
      accepted = record { initial = a.accepted; handshake = b.accepted; «data» = c.accepted };
      acks = record { initial = a.acks; handshake = b.acks; «data» = c.acks };
    }

first : {a : World} → Reach a → Reaches (trio a fresh_world fresh_world)
first one-start = start
first (one-next {w} r t) = next (first r) (steps (trio w fresh_world fresh_world) id.Initial t)

second : {a b : World} → Reach a → Reach b → Reaches (trio a b fresh_world)
second q one-start = first q
second {a} q (one-next {w} r t) = next (second q r) (steps (trio a w fresh_world) id.Handshake t)

pub third : {a b c : World} → Reach a → Reach b → Reach c → Reaches (trio a b c)
third p q one-start = second p q
third {a} {b} p q (one-next {w} r t) = next (third p q r) (steps (trio a b w) id.Data t)

-- what three spaces reach is what each of them reaches
pub reaches_each : (w : Worlds) → Reaches w ↔ ((s : SpaceId) → Reach (view w s))
reaches_each w = (in_each, λ r. third (r id.Initial) (r id.Handshake) (r id.Data))

-- the demand in three spaces says no less than number's: by the reading of any kind, that one follows from it
pub delivery_back : (k : Kind) (s : SpaceId) → space_for k ≡ some s → Deliveries → Delivery
delivery_back k id.Initial q d w r p m =
    rw (reads_as (trio w fresh_world fresh_world).receiver k p.carries q) at (d (trio w fresh_world fresh_world) (third r one-start one-start) k id.Initial q p m)
delivery_back k id.Handshake q d w r p m =
    rw (reads_as (trio fresh_world w fresh_world).receiver k p.carries q) at (d (trio fresh_world w fresh_world) (third one-start r one-start) k id.Handshake q p m)
delivery_back k id.Data q d w r p m =
    rw (reads_as (trio fresh_world fresh_world w).receiver k p.carries q) at (d (trio fresh_world fresh_world w) (third one-start one-start r) k id.Data q p m)
