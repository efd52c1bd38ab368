-- A record of split gives back what the step of the walk says, and all that it names lies in the packet.
use Rattle.std.specs.Prelude.{leb, if◌then◌else◌}
use mathlib.Core.Path.{◌≡◌, refl, sym, ◌∙◌}
use mathlib.Core.List.{List, []}
use mathlib.Core.Bool.{Bool, true, false}
use mathlib.Core.Option.{Option, none, some}
use Prim.Native.Nat.{ℕ, ◌+◌, ◌≤◌, ◌<◌}
use native.Mathlib.Omega.{arith}
use lib.ListN.{length, drop, length-drop}
use lib.Dec.{eqb}
use borrow.Author.Tests.{le-leb, ne_eqb, eqb-true, eqb-false, leb-false}
use Rattle.coding.specs.Words.{Answer, no, ok}
use Rattle.coding.specs.Places.{part_of}
use Rattle.coding.specs.Reading.{take_at}
use Rattle.coding.proofs.Rules.{if_all, then_all}
use Rattle.shared.specs.Cid.{cid_of}
use Rattle.shared.specs.declared.cid.ConnectionId.{ConnectionId}
use Rattle.packet.specs.TypeBits.{type_of}
use Rattle.packet.specs.Header.{Header, Outcome, is_long, refused_header, outside, header_at, length_in}
use Rattle.packet.specs.Split.{Split, cut_at, no_packet, split_by, split_on, split_with, split_at}
use Rattle.packet.specs.Walk.{at_end, PacketStep, met_on, step_on, stop_at, packet_step_at}
use Rattle.packet.proofs.Splits.{split_taken}
use Rattle.gateway_frame.specs.Spans.{span_at}
use Rattle.gateway.specs.Packets.{said_numbers, split_record, step_record}
use Rattle.gateway.specs.GivesBack.{named, outcome_back, met_back, walk_step_back, SplitGivesBack, Holds, SplitHolds}
use Rattle.gateway.proofs.Taken.{flag_back, flag_small}
use Rattle.gateway.proofs.Answered.{read_as}
use Rattle.gateway.proofs.Stands.{Placed, Located, Stands, located, refused, header_stands}

-- ---- the records

none_back : (s : List ℕ) → cid_of (part_of s (record { start = 0; len = 0 })) ≡ cid_of []
unfolding part_of
none_back s = rw (le-leb 0 (length s) (omega arith))

-- of a header, for a packet of len bytes or a refusal
module _ (s : List ℕ) (start len : ℕ) (dst src : ConnectionId) (version end : ℕ) where
  abbrev saying : Answer Header → Outcome
  saying a = record { said = a; dst = dst; src = src; version = version; end = end }

  both : (a : Answer Header) {c d : ConnectionId} → c ≡ dst → d ≡ src → record { said = a; dst = c; src = d; version = version; end = end } ≡ saying a
  both a p q i = record { said = a; dst = p i; src = q i; version = version; end = end }

  cids_back : (x : Header) (long : Bool) → is_long (ok x) ≡ long → Placed s long (saying (ok x)) → outcome_back s (split_record start len (saying (ok x))) ≡ saying (ok x)
  cids_back x true e p = let r = read_as x in rw (r.back start len (saying (ok x)), r.form, e, r.done) (both _ p.to p.from)
  cids_back x false e p = let r = read_as x in rw (r.back start len (saying (ok x)), r.form, e) (both _ p.to (none_back s ∙ sym p.from))

  said_back : (a : Answer Header) → Located s a (saying a) → outcome_back s (split_record start len (saying a)) ≡ saying a
  said_back (ok x) h = cids_back x (is_long (ok x)) refl h.0
  said_back (no k) h = rw (ne_eqb k 0 h.0) (go (eqb k 4) refl)
    where
      go : (b : Bool) → eqb k 4 ≡ b
          → record { said = no k; dst = cid_of (named s (if b then span_at 6 dst.len else span_at 0 0)); src = cid_of (named s (if b then span_at (7 + dst.len) src.len else span_at 0 0)); version = version; end = end } ≡ saying (no k)
      go true q = let w = (h.1.0 (eqb-true k 4 q)).1 in both _ w.to w.from
      go false q = let w = h.1.1 (eqb-false k 4 q) in both _ (none_back s ∙ sym w.to) (none_back s ∙ sym w.from)

  met_back_law : (a : Answer Header) → Located s a (saying a) → met_back (step_record start (record { met = met_on a start len; header = saying a })) ≡ met_on a start len
  unfolding met_on
  met_back_law (ok x) h = let k : (said_numbers (ok x)).kind ≡ 6 → ⊥ = λ e. omega (arith, e, (read_as x).few) in rw (ne_eqb (said_numbers (ok x)).kind 6 k)
  met_back_law (no k) h = rw (ne_eqb k 0 h.0)

-- ---- a step of the walk

-- a split's header is the one that was read, or refusal 7
split_header : (P : Outcome → Type 0) (s : List ℕ) (local : ℕ) (versions : List ℕ) (grease : Bool) → P (header_at s local versions grease) → P (refused_header 7)
    → P (split_at s local versions grease).header
unfolding split_with split_on split_by cut_at no_packet
split_header P s local versions grease p q = on (header_at s local versions grease).said
  where
    o : Outcome
    o = header_at s local versions grease

    by : (m : Option ℕ) → P (split_by m s o).header
    by none = p
    by (some n) = then_all (λ (x : Split). P x.header) (take_at n s o.end) _ _ (λ e. q) (λ place next e. p)

    on : (a : Answer Header) → P (split_on a s o).header
    on (no k) = p
    on (ok x) = by (length_in (ok x))

-- the step past the last packet
abbrev past : PacketStep
past = record { met = at_end; header = refused_header 1 }

module _ (s : List ℕ) (at : ℕ) where
  -- a step that says a, over a packet of len bytes
  on_back : (len : ℕ) (dst src : ConnectionId) (version end : ℕ) (a : Answer Header) → Located (drop at s) a (saying (drop at s) at len dst src version end a)
      → walk_step_back s (step_record at (record { met = met_on a at len; header = saying (drop at s) at len dst src version end a }))
      ≡ record { met = met_on a at len; header = saying (drop at s) at len dst src version end a }
  unfolding met_on
  on_back len dst src version end (ok x) h = λ i.
      record { met = met_back_law (drop at s) at len dst src version end (ok x) h i; header = said_back (drop at s) at len dst src version end (ok x) h i }
  on_back len dst src version end (no k) h = λ i.
      record { met = met_back_law (drop at s) at len dst src version end (no k) h i; header = said_back (drop at s) at 0 dst src version end (no k) h i }

  outcome_back_law : (len : ℕ) (o : Outcome) → Located (drop at s) o.said o
      → walk_step_back s (step_record at (record { met = met_on o.said at len; header = o })) ≡ record { met = met_on o.said at len; header = o }
  outcome_back_law len o h = on_back len o.dst o.src o.version o.end o.said h

  abbrev Back : PacketStep → Type 0
  Back x = walk_step_back s (step_record at x) ≡ x

  stop_back : (k : ℕ) → eqb k 0 ≡ false → eqb k 4 ≡ false → Back (stop_at at k)
  unfolding stop_at met_on
  stop_back k z f = outcome_back_law 0 (refused_header k) (refused (drop at s) k z f)

  end_back : Back (record { met = at_end; header = refused_header 1 })
  end_back i = record { met = at_end; header = both (drop at s) at 0 (cid_of []) (cid_of []) 0 0 (no 1) (none_back (drop at s)) (none_back (drop at s)) i }

  module _ (local : ℕ) (versions : List ℕ) (grease : Bool) where
    split_stands : Stands (drop at s) (split_at (drop at s) local versions grease).header
    split_stands =
        split_header (Stands (drop at s)) (drop at s) local versions grease (header_stands (drop at s) type_of local versions grease)
        (refused (drop at s) 7 refl refl)

    step_back : walk_step_back s (step_record at (packet_step_at s at local versions grease)) ≡ packet_step_at s at local versions grease
    unfolding packet_step_at step_on
    step_back =
        let x : Split = split_at (drop at s) local versions grease in
        let ended : PacketStep = if leb (length s) at then past else step_on at x in
        if_all Back (outside s local versions) (stop_at at 14) (if eqb (length s) 0 then stop_at at 1 else ended)
        (λ b. stop_back 14 refl refl) (λ b.
        if_all Back (eqb (length s) 0) (stop_at at 1) ended (λ c. stop_back 1 refl refl) (λ c.
        if_all Back (leb (length s) at) past (step_on at x) (λ d. end_back) (λ d. outcome_back_law x.packet.len x.header (located (drop at s) x.header.said x.header split_stands))))

pub split_back : SplitGivesBack
split_back s at local versions grease = rw (flag_small grease, flag_back grease) (step_back s at local versions grease)

-- ---- where there is a packet

module _ (s : List ℕ) (at len : ℕ) (dst src : ConnectionId) (version end : ℕ) (p : at + len ≤ length s) (q : end ≤ len) where
  header_holds : (x : Header) → Located (drop at s) (ok x) (saying (drop at s) at len dst src version end (ok x))
      → Holds s (split_record at len (saying (drop at s) at len dst src version end (ok x)))
  header_holds x h = by_form (is_long (ok x)) refl h.0
    where
      by_form : (long : Bool) → is_long (ok x) ≡ long → Placed (drop at s) long (saying (drop at s) at len dst src version end (ok x))
          → Holds s (split_record at len (saying (drop at s) at len dst src version end (ok x)))
      by_form true e w =
          let r = read_as x in
          rw (r.form, e, r.done, r.token) (record { packet = p; to = omega (arith, w); from = omega (arith, w); token = h.1; number = q })
      by_form false e w =
          let r = read_as x in
          rw (r.form, e, r.token) (record { packet = p; to = omega (arith, w); from = omega arith; token = h.1; number = q })

module _ (s : List ℕ) (at local : ℕ) (versions : List ℕ) (grease : Bool) where
  abbrev Inside : PacketStep → Type 0
  Inside x = (step_record at x).kind < 6 → Holds s (step_record at x)

  stop_inside : (k : ℕ) → Inside (stop_at at k)
  unfolding stop_at
  stop_inside k h = absurd (omega (arith, h))

  on_inside : (len : ℕ) (dst src : ConnectionId) (version end : ℕ) (a : Answer Header) → Located (drop at s) a (saying (drop at s) at len dst src version end a)
      → ((x : Header) → a ≡ ok x → (at + len ≤ length s) × (end ≤ len)) → Inside (record { met = met_on a at len; header = saying (drop at s) at len dst src version end a })
  unfolding met_on
  on_inside len dst src version end (no k) w f h = absurd (omega (arith, h))
  on_inside len dst src version end (ok x) w f h = let g = f x refl in header_holds s at len dst src version end g.0 g.1 x w

  split_inside : at < length s → Inside (step_on at (split_at (drop at s) local versions grease))
  unfolding step_on
  split_inside l =
      let o : Outcome = (split_at (drop at s) local versions grease).header in
      on_inside _ o.dst o.src o.version o.end o.said (located (drop at s) o.said o (split_stands s at local versions grease)) (λ x e.
      let t = split_taken (drop at s) local versions grease x e in
      (omega (arith, l, t.inside, length-drop at s), t.past.end))

  step_inside : Inside (packet_step_at s at local versions grease)
  unfolding packet_step_at
  step_inside =
      let met : PacketStep = step_on at (split_at (drop at s) local versions grease) in
      let ended : PacketStep = if leb (length s) at then past else met in
      if_all Inside (outside s local versions) (stop_at at 14) (if eqb (length s) 0 then stop_at at 1 else ended) (λ b. stop_inside 14) (λ b.
      if_all Inside (eqb (length s) 0) (stop_at at 1) ended (λ c. stop_inside 1) (λ c.
      if_all Inside (leb (length s) at) past met (λ d h. absurd (omega (arith, h))) (λ d. split_inside (leb-false _ _ d))))

pub split_holds : SplitHolds
split_holds s at local versions grease = rw (flag_small grease, flag_back grease) (step_inside s at local versions grease)
