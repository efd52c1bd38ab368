-- A packet lies within its datagram, and with the rest it makes the datagram.
use mathlib.Core.Path.{◌≡◌, refl, sym, ◌∙◌}
use mathlib.Core.List.{List, ◌++◌}
use mathlib.Core.Bool.{Bool, true, false}
use mathlib.Core.Option.{Option, none, some}
use Prim.Native.Nat.{ℕ, ◌+◌, ◌-◌, ◌≤◌, ◌<◌}
use native.Mathlib.Omega.{arith}
use lib.ListN.{length, take, drop, length-drop, drop_of_length-le, take-append-drop}
use lib.Seq.{take_all}
use lib.Dec.{ltb}
use borrow.Author.Tests.{ltb-true, ltb-false, le-leb, lt-ltb, le-ltb}
use Rattle.coding.specs.Words.{Answer, no, ok}
use Rattle.coding.specs.Places.{part_of}
use Rattle.coding.specs.Reading.{take_at}
use Rattle.coding.specs.declared.Place.{Place}
use Rattle.coding.proofs.Laws.{take_inside}
use Rattle.coding.proofs.Rules.{then_all}
use Rattle.packet.specs.TypeBits.{type_of}
use Rattle.packet.specs.Header.{Header, Outcome, refused_header, header_at, length_in}
use Rattle.packet.specs.Split.{Split, nowhere, rest_at, cut_at, no_packet, split_by, split_on, split_with, split_at, rest_in}
use Rattle.packet.specs.Inside.{HeaderInside, SplitInside, SplitsInside}
use Rattle.packet.proofs.Within.{least, Within, header_within}

-- what is known of a packet that was split off
pub record Taken (s : List ℕ) (h : Header) (x : Split) : Type 0 where
  pub begins : x.packet.start ≡ 0
  pub begun : least h ≤ x.packet.len
  pub past : HeaderInside x.packet.len x.header
  pub inside : x.packet.len ≤ length s
  pub rest : x.rest ≡ rest_at s x.packet.len
  pub whole : length_in (ok h) ≡ none → x.packet.len ≡ length s

-- and of one that was refused
pub record Refused (k : ℕ) (x : Split) : Type 0 where
  pub small : k ≤ 14
  pub packet : x.packet ≡ nowhere
  pub rest : x.rest ≡ none
  pub past : x.header.end ≡ 0

module _ (s : List ℕ) (o : Outcome) where
  abbrev Right : Split → Type 0
  Right x = ((h : Header) → x.header.said ≡ ok h → Taken s h x) × ((k : ℕ) → x.header.said ≡ no k → Refused k x)

  no_right : (k : ℕ) (p : Outcome) → k ≤ 14 → p.end ≡ 0 → p.said ≡ no k → Right (no_packet p)
  unfolding no_packet
  no_right k p l y e = (
    λ h f. let z : ◌≡◌ {A = ℕ} 0 1 = cc in absurd (omega arith),
    λ j f. let i : k ≡ j = cc in record { small = omega arith; packet = refl; rest = refl; past = y },
  )

  cut_right : (x : Header) (n : ℕ) → o.said ≡ ok x → least x ≤ n → HeaderInside n o → n ≤ length s → (length_in (ok x) ≡ none → n ≡ length s) → Right (cut_at o s n)
  unfolding cut_at
  cut_right x n e a q b c = (
    λ h f. let i : x ≡ h = cc in record { begins = refl; begun = rw i at a; past = q; inside = b; rest = refl; whole = rw i at c },
    λ j f. let z : ◌≡◌ {A = ℕ} 0 1 = cc in absurd (omega arith),
  )

  module _ (x : Header) (e : o.said ≡ ok x) (w : Within s 1 o) where
    inside : (n : ℕ) → o.end ≤ n → HeaderInside n o
    inside n l = record { end = l; token = rw e (w.0 x e).token }

    by_right : (m : Option ℕ) → length_in (ok x) ≡ m → Right (split_by m s o)
    unfolding split_by
    by_right none f = let i = w.0 x e in cut_right x (length s) e (omega arith) (inside (length s) i.inside) (omega arith) (λ g. refl)
    by_right (some n) f =
        let i = w.0 x e in
        then_all Right (take_at n s o.end) _ _ (λ g. no_right 7 (refused_header 7) (omega arith) refl refl) (λ payload end g.
        let j = take_inside n s o.end payload end g in
        cut_right x end e (omega arith) (inside end (omega arith)) (omega arith) (λ q. let z : ◌≡◌ {A = ℕ} 0 1 = cc in absurd (omega arith)))

  on_right : (a : Answer Header) → o.said ≡ a → Within s 1 o → Right (split_on a s o)
  unfolding split_on
  on_right (no k) e w = no_right k o (w.1 k e).0 (w.1 k e).1 e
  on_right (ok x) e w = by_right x e w (length_in (ok x)) refl

module _ (s : List ℕ) (local : ℕ) (versions : List ℕ) (grease : Bool) where
  right : Right s (header_at s local versions grease) (split_at s local versions grease)
  unfolding split_with
  right = on_right s (header_at s local versions grease) _ refl (header_within s type_of local versions grease)

  pub split_taken : (h : Header) → (split_at s local versions grease).header.said ≡ ok h → Taken s h (split_at s local versions grease)
  split_taken h e = right.0 h e

  pub split_refused : (k : ℕ) → (split_at s local versions grease).header.said ≡ no k → Refused k (split_at s local versions grease)
  split_refused k e = right.1 k e

-- ---- the rest

module _ (s : List ℕ) (n : ℕ) where
  pub rest_some : n < length s → rest_at s n ≡ some (record { start = n; len = length s - n })
  unfolding rest_at
  rest_some h = rw (lt-ltb _ _ h)

  pub rest_none : length s ≤ n → rest_at s n ≡ none
  unfolding rest_at
  rest_none h = rw (le-ltb _ _ h)

  -- its bytes are what follows
  rest_part : (b : Bool) → ltb n (length s) ≡ b → part_of s (rest_in (rest_at s n)) ≡ drop n s
  unfolding part_of
  rest_part true e =
      let h = ltb-true _ _ e in
      rw (rest_some h, le-leb (n + (length s - n)) (length s) (omega arith)) (take_all (length s - n) (drop n s) (simp length-drop (omega arith)))
  rest_part false e = let h = ltb-false _ _ e in rw (rest_none h, le-leb 0 (length s) (omega arith)) (sym (drop_of_length-le s h))

first_part : (s : List ℕ) (p : Place) → p.start ≡ 0 → p.len ≤ length s → part_of s p ≡ take p.len s
unfolding part_of
first_part s p a b = rw (le-leb (p.start + p.len) (length s) (omega arith), a)

-- a packet followed by the rest is the datagram
pub joined : (s : List ℕ) (local : ℕ) (versions : List ℕ) (grease : Bool) (h : Header) → (split_at s local versions grease).header.said ≡ ok h
    → part_of s (split_at s local versions grease).packet ++ part_of s (rest_in (split_at s local versions grease).rest) ≡ s
joined s local versions grease h e =
    let t = split_taken s local versions grease h e in
    let n : ℕ = (split_at s local versions grease).packet.len in
    let p : part_of s (split_at s local versions grease).packet ≡ take n s = first_part s (split_at s local versions grease).packet t.begins t.inside in
    rw (p, t.rest, rest_part s n _ refl) (take-append-drop n s)

-- ---- inside

-- the rest stands from the packet's end to the datagram's
rest_follows : (s : List ℕ) (n : ℕ) → n ≤ length s → (p : Place) → rest_at s n ≡ some p → (0 < p.len) × ((p.start ≡ n) × (p.start + p.len ≡ length s))
rest_follows s n l p = go (ltb n (length s)) refl
  where
    go : (b : Bool) → ltb n (length s) ≡ b → rest_at s n ≡ some p → (0 < p.len) × ((p.start ≡ n) × (p.start + p.len ≡ length s))
    go true e q =
        let h = ltb-true _ _ e in
        let i : ◌≡◌ {A = Option Place} (some (record { start = n; len = length s - n })) (some p) = sym (rest_some s n h) ∙ q in
        let a : n ≡ p.start = cc in
        let b : length s - n ≡ p.len = cc in
        (omega arith, (omega arith, omega arith))
    go false e q =
        let i : ◌≡◌ {A = Option Place} none (some p) = sym (rest_none s n (ltb-false _ _ e)) ∙ q in
        let z : ◌≡◌ {A = ℕ} 0 1 = cc in
        absurd (omega arith)

-- packet and rest lie inside the datagram and follow one another; header and token lie inside the packet
pub split_inside : SplitsInside
split_inside s local versions grease = go x.header.said refl
  where
    x : Split
    x = split_at s local versions grease

    go : (a : Answer Header) → x.header.said ≡ a → SplitInside s x
    go (no k) e =
        let r = split_refused s local versions grease k e in
        record {
          starts = rw r.packet;
          inside = rw r.packet (omega arith);
          rest = λ p q. let i : ◌≡◌ {A = Option Place} none (some p) = sym r.rest ∙ q in let z : ◌≡◌ {A = ℕ} 0 1 = cc in absurd (omega arith);
          header = record { end = omega (arith, r.past); token = rw e (omega arith) };
        }
    go (ok h) e =
        let t = split_taken s local versions grease h e in
        record { starts = t.begins; inside = t.inside; rest = λ p q. rest_follows s _ t.inside p (sym t.rest ∙ q); header = t.past }
