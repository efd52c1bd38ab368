-- The walk: its packets lie in line in the datagram and cover it, and repeating the step is the walk.
use mathlib.Core.Path.{◌≡◌, refl, sym, ap, ◌∙◌}
use mathlib.Core.List.{List, [], ◌∷◌}
use mathlib.Core.Bool.{Bool, true, false}
use mathlib.Core.Option.{Option-elim}
use Prim.Native.Nat.{ℕ, zero, suc, ◌+◌, ◌-◌, ◌≤◌, ◌<◌}
use native.Mathlib.Omega.{arith}
use lib.ListN.{length, drop, length-drop}
use lib.Seq.{drop-drop}
use lib.Dec.{ltb}
use borrow.Author.Tests.{ltb-true, ltb-false, lt-leb, le-leb, eq-eqb, ne_eqb}
use Rattle.coding.specs.Words.{and_then, Answer, no, ok}
use Rattle.coding.proofs.Laws.{fixed_none}
use Rattle.packet.specs.Header.{Header, initial, zero_rtt, handshake, retry, short, negotiate, refused_header, outside, header_by, header_at}
use Rattle.packet.specs.Split.{Split, no_packet, split_on, split_with, split_at}
use Rattle.packet.specs.Walk.{Met, at_end, packet, refused_at, PacketStep, met_on, step_on, stop_at, packets_from, walk_at, packet_step_at}
use Rattle.packet.specs.Inside.{PacketInside, InLine, whole, tail_refused, follows, StepsInside, WalksInside}
use Rattle.packet.proofs.Within.{least}
use Rattle.packet.proofs.Splits.{split_taken, split_refused, rest_some, rest_none}

-- every header has a byte
pub least_pos : (h : Header) → 0 < least h
least_pos (initial token len) = omega arith
least_pos (zero_rtt len) = omega arith
least_pos (handshake len) = omega arith
least_pos retry = omega arith
least_pos (short spin) = omega arith
least_pos (negotiate bits) = omega arith

-- what a step meets, by what the header says
module _ (start : ℕ) (x : Split) where
  pub met_no : (k : ℕ) → x.header.said ≡ no k → (step_on start x).met ≡ refused_at start
  unfolding step_on met_on
  met_no k e = rw e

  pub met_ok : (h : Header) → x.header.said ≡ ok h → (step_on start x).met ≡ packet start x.packet.len
  unfolding step_on met_on
  met_ok h e = rw e

module _ (local : ℕ) (versions : List ℕ) (grease : Bool) where
  abbrev pub first : List ℕ → Split
  first s = split_at s local versions grease

  abbrev pub size : List ℕ → ℕ
  size s = (first s).packet.len

  -- ---- the three ways of a walk: a refusal, a last packet, and a packet with a rest

  pub walk_no : (turns start : ℕ) (s : List ℕ) (k : ℕ) → (first s).header.said ≡ no k → packets_from turns start s local versions grease ≡ step_on start (first s) ∷ []
  unfolding packets_from Option-elim
  walk_no zero start s k e = refl
  walk_no (suc turns) start s k e = rw (split_refused s local versions grease k e).rest

  module _ (s : List ℕ) (h : Header) (e : (first s).header.said ≡ ok h) where
    pub walk_last : (turns start : ℕ) → length s ≤ size s → packets_from turns start s local versions grease ≡ step_on start (first s) ∷ []
    unfolding packets_from Option-elim
    walk_last zero start l = refl
    walk_last (suc turns) start l = rw ((split_taken s local versions grease h e).rest, rest_none s (size s) l)

    pub walk_more : (turns start : ℕ) → size s < length s
        → packets_from (suc turns) start s local versions grease ≡ step_on start (first s) ∷ packets_from turns (start + size s) (drop (size s) s) local versions grease
    unfolding packets_from Option-elim
    walk_more turns start l = rw ((split_taken s local versions grease h e).rest, rest_some s (size s) l)

-- ---- each packet of a walk stands where the one before it ended

-- what is known of the packet that a split takes off, at a place of a datagram of n bytes
took : (local : ℕ) (versions : List ℕ) (grease : Bool) (s : List ℕ) (h : Header) → (first local versions grease s).header.said ≡ ok h
    → (n start : ℕ) → start + length s ≤ n → PacketInside n start start (size local versions grease s) (first local versions grease s).header
took local versions grease s h e n start l =
    let t = split_taken s local versions grease h e in
    let p = least_pos h in
    record { starts = refl; some = omega arith; inside = omega arith; header = t.past }

module _ (local : ℕ) (versions : List ℕ) (grease : Bool) where
  abbrev Lined : ℕ → ℕ → List ℕ → Type 0
  Lined turns start s = InLine (start + length s) start (packets_from turns start s local versions grease)

  lined_no : (turns start : ℕ) (s : List ℕ) (k : ℕ) → (first local versions grease s).header.said ≡ no k → Lined turns start s
  lined_no turns start s k e = rw (walk_no local versions grease turns start s k e) (tail_refused (met_no start (first local versions grease s) k e) (omega arith))

  module _ (s : List ℕ) (h : Header) (e : (first local versions grease s).header.said ≡ ok h) where
    lined_last : (turns start : ℕ) → length s ≤ size local versions grease s → Lined turns start s
    unfolding step_on
    lined_last turns start l =
        let k = took local versions grease s h e (start + length s) start (omega arith) in
        rw (walk_last local versions grease s h e turns start l) (follows (met_ok start (first local versions grease s) h e) k (whole {at = start + size local versions grease s} (omega arith)))

    lined_more : (turns start : ℕ) → size local versions grease s < length s
        → Lined turns (start + size local versions grease s) (drop (size local versions grease s) s) → Lined (suc turns) start s
    unfolding step_on
    lined_more turns start l c =
        let n : ℕ = size local versions grease s in
        let d : length (drop n s) ≡ length s - n = length-drop n s in
        let m : start + n + length (drop n s) ≡ start + length s = omega arith in
        let k = took local versions grease s h e (start + length s) start (omega arith) in
        rw (walk_more local versions grease s h e turns start l) (follows (met_ok start (first local versions grease s) h e) k (rw m at c))

  -- one packet and what follows it
  lined_one : (turns start : ℕ) (s : List ℕ) → ((n : ℕ) → 0 < n → n < length s → Lined turns (start + n) (drop n s)) → Lined (suc turns) start s
  lined_one turns start s again = go (first local versions grease s).header.said (ltb (size local versions grease s) (length s)) refl refl
    where
      go : (a : Answer Header) (b : Bool) → (first local versions grease s).header.said ≡ a → ltb (size local versions grease s) (length s) ≡ b → Lined (suc turns) start s
      go (no k) b e f = lined_no (suc turns) start s k e
      go (ok h) false e f = lined_last s h e (suc turns) start (ltb-false _ _ f)
      go (ok h) true e f =
          let i : size local versions grease s < length s = ltb-true _ _ f in
          let k = took local versions grease s h e (start + length s) start (omega arith) in
          lined_more s h e turns start i (again (size local versions grease s) k.some i)

  lined_none : (start : ℕ) (s : List ℕ) → length s ≤ 0 → Lined 0 start s
  lined_none start s l = go (first local versions grease s).header.said refl
    where
      go : (a : Answer Header) → (first local versions grease s).header.said ≡ a → Lined 0 start s
      go (no k) e = lined_no 0 start s k e
      go (ok h) e = lined_last s h e 0 start (omega arith)

  lined : (turns start : ℕ) (s : List ℕ) → length s ≤ turns → Lined turns start s
  lined zero start s l = lined_none start s l
  lined (suc turns) start s l =
      lined_one turns start s (λ n p k. let d : length (drop n s) ≡ length s - n = length-drop n s in lined turns (start + n) (drop n s) (omega arith))

pub walk_inside : WalksInside
unfolding walk_at
walk_inside s local versions grease = let z : 0 + length s ≡ length s = omega arith in rw z at (lined local versions grease (length s) 0 s (omega arith))

-- ---- so the packets and the refused tail make up the datagram

-- the bytes that a step accounts for in a datagram that ends at `total`
abbrev pub bytes_of : ℕ → Met → ℕ
bytes_of total at_end = 0
bytes_of total (packet start len) = len
bytes_of total (refused_at start) = total - start

unfoldable pub covered : ℕ → List PacketStep → ℕ
covered total [] = 0
covered total (x ∷ xs) = bytes_of total x.met + covered total xs

line_covers : (n at : ℕ) (xs : List PacketStep) → InLine n at xs → at + covered n xs ≡ n
unfolding covered
line_covers n at xs (whole e) = omega arith
line_covers n at xs (tail_refused e l) = rw e (omega arith)
line_covers n at xs (follows {start = start} {len = len} {xs = ys} e k l) = rw e (omega (arith, k.starts, line_covers n (start + len) ys l))

pub walk_covers : (local : ℕ) (versions : List ℕ) (grease : Bool) (s : List ℕ) → covered (length s) (walk_at s local versions grease) ≡ length s
walk_covers local versions grease s = omega (arith, line_covers (length s) 0 (walk_at s local versions grease) (walk_inside s local versions grease))

-- ---- repeating the step

unfoldable pub go_on : Met → PacketStep → (ℕ → List PacketStep) → List PacketStep
go_on at_end x next = []
go_on (packet start len) x next = x ∷ next (start + len)
go_on (refused_at start) x next = x ∷ []

pub ends : (m : Met) (x : PacketStep) (next : ℕ → List PacketStep) → m ≡ at_end → go_on m x next ≡ []
unfolding go_on
ends m x next e = rw e

module _ (m : Met) (x : PacketStep) (next : ℕ → List PacketStep) (start : ℕ) where
  pub stops : m ≡ refused_at start → go_on m x next ≡ x ∷ []
  unfolding go_on
  stops e = rw e

  pub goes : (len : ℕ) → m ≡ packet start len → go_on m x next ≡ x ∷ next (start + len)
  unfolding go_on
  goes len e = rw e

-- at most n steps, each at the end of the packet before it
unfoldable pub repeated : ℕ → List ℕ → ℕ → ℕ → List ℕ → Bool → List PacketStep
repeated zero s at local versions grease = []
repeated (suc n) s at local versions grease =
    go_on (packet_step_at s at local versions grease).met (packet_step_at s at local versions grease) (λ next. repeated n s next local versions grease)

module _ (s : List ℕ) (local : ℕ) (versions : List ℕ) (grease : Bool) where
  pub step_out : (at : ℕ) → outside s local versions ≡ true → packet_step_at s at local versions grease ≡ stop_at at 14
  unfolding packet_step_at
  step_out at o = rw o

  module _ (o : outside s local versions ≡ false) (at : ℕ) where
    pub step_empty : length s ≡ 0 → packet_step_at s at local versions grease ≡ stop_at at 1
    unfolding packet_step_at
    step_empty e = rw (o, eq-eqb _ _ e)

    pub step_end : 0 < length s → length s ≤ at → packet_step_at s at local versions grease ≡ record { met = at_end; header = refused_header 1 }
    unfolding packet_step_at
    step_end p l = rw (o, ne_eqb (length s) 0 (λ e. omega arith), le-leb _ _ l)

    pub step_in : at < length s → packet_step_at s at local versions grease ≡ step_on at (split_at (drop at s) local versions grease)
    unfolding packet_step_at
    step_in l = rw (o, ne_eqb (length s) 0 (λ e. omega arith), lt-leb _ _ l)

  module _ (o : outside s local versions ≡ false) where
    -- one step and what follows it; `again` is the walk from the end of the packet
    once_more : (turns at : ℕ) → at < length s
        → ((next : ℕ) → at < next → next < length s → repeated (suc turns) s next local versions grease ≡ packets_from turns next (drop next s) local versions grease)
        → repeated (suc (suc turns)) s at local versions grease ≡ packets_from (suc turns) at (drop at s) local versions grease
    unfolding repeated go_on
    once_more turns at l again =
        rw (step_in o at l) (go x.header.said (ltb n (length (drop at s))) refl refl)
      where
        x : Split
        x = split_at (drop at s) local versions grease

        n : ℕ
        n = x.packet.len

        go : (a : Answer Header) (b : Bool) → x.header.said ≡ a → ltb n (length (drop at s)) ≡ b
            → go_on (step_on at x).met (step_on at x) (λ next. repeated (suc turns) s next local versions grease) ≡ packets_from (suc turns) at (drop at s) local versions grease
        go (no k) b e f = stops _ (step_on at x) _ at (met_no at x k e) ∙ sym (walk_no local versions grease (suc turns) at (drop at s) k e)
        go (ok h) true e f =
            let i : n < length (drop at s) = ltb-true _ _ f in
            let p = least_pos h in
            let u = split_taken (drop at s) local versions grease h e in
            let d : length (drop at s) ≡ length s - at = length-drop at s in
            goes _ (step_on at x) _ at n (met_ok at x h e)
            ∙ ap (λ (xs : List PacketStep). step_on at x ∷ xs) (again (at + n) (omega arith) (omega arith) ∙ rw (← drop-drop n at s))
            ∙ sym (walk_more local versions grease (drop at s) h e turns at i)
        go (ok h) false e f =
            let i : length (drop at s) ≤ n = ltb-false _ _ f in
            let d : length (drop at s) ≡ length s - at = length-drop at s in
            goes _ (step_on at x) _ at n (met_ok at x h e)
            ∙ rw (step_end o (at + n) (omega arith) (omega arith)) (sym (walk_last local versions grease (drop at s) h e (suc turns) at i))

    pub repeats : (turns at : ℕ) → at < length s → length s - at ≤ turns
        → repeated (suc turns) s at local versions grease ≡ packets_from turns at (drop at s) local versions grease
    repeats zero at l t = absurd (omega arith)
    repeats (suc turns) at l t = once_more turns at l (λ next m k. repeats turns next k (omega arith))

  -- a datagram that is refused as a whole
  pub walk_refused : (k : ℕ) → header_at s local versions grease ≡ refused_header k → packets_from (length s) 0 s local versions grease ≡ stop_at 0 k ∷ []
  unfolding split_with split_on no_packet step_on met_on stop_at
  walk_refused k e =
      let f : split_at s local versions grease ≡ no_packet (refused_header k) = rw e in
      walk_no local versions grease (length s) 0 s k (rw f) ∙ rw f

  repeated_refused : (k n : ℕ) → packet_step_at s 0 local versions grease ≡ stop_at 0 k → repeated (suc n) s 0 local versions grease ≡ stop_at 0 k ∷ []
  unfolding repeated go_on stop_at
  repeated_refused k n e = rw e

  pub header_outside : outside s local versions ≡ true → header_at s local versions grease ≡ refused_header 14
  unfolding header_by
  header_outside o = rw o

  header_empty : outside s local versions ≡ false → length s ≡ 0 → header_at s local versions grease ≡ refused_header 1
  unfolding header_by and_then
  header_empty o e = rw (o, ← fixed_none 1 s 0 (omega arith))

  -- the walk is the step, repeated
  pub walk_steps : repeated (suc (length s)) s 0 local versions grease ≡ walk_at s local versions grease
  unfolding walk_at
  walk_steps = go (outside s local versions) (ltb 0 (length s)) refl refl
    where
      go : (a b : Bool) → outside s local versions ≡ a → ltb 0 (length s) ≡ b
          → repeated (suc (length s)) s 0 local versions grease ≡ packets_from (length s) 0 s local versions grease
      go true b o f = repeated_refused 14 (length s) (step_out 0 o) ∙ sym (walk_refused 14 (header_outside o))
      go false false o f =
          let e : length s ≤ 0 = ltb-false _ _ f in
          let z : length s ≡ 0 = omega arith in
          repeated_refused 1 (length s) (step_empty o 0 z) ∙ sym (walk_refused 1 (header_empty o z))
      go false true o f = repeats o (length s) 0 (ltb-true _ _ f) (omega arith)

-- ---- a packet that a step meets

module _ (s : List ℕ) (local : ℕ) (versions : List ℕ) (grease : Bool) (at start len : ℕ) where
  abbrev Met-inside : PacketStep → Type 0
  Met-inside x = x.met ≡ packet start len → PacketInside (length s) at start len x.header

  on_inside : at < length s → (a : Answer Header) → (split_at (drop at s) local versions grease).header.said ≡ a
      → Met-inside (step_on at (split_at (drop at s) local versions grease))
  unfolding step_on
  on_inside l (no k) e f =
      let g : refused_at at ≡ packet start len = sym (met_no at (split_at (drop at s) local versions grease) k e) ∙ f in
      let z : ◌≡◌ {A = ℕ} 0 1 = cc in
      absurd (omega arith)
  on_inside l (ok h) e f =
      let x : Split = split_at (drop at s) local versions grease in
      let g : packet at x.packet.len ≡ packet start len = sym (met_ok at x h e) ∙ f in
      let i : at ≡ start = cc in
      let j : x.packet.len ≡ len = cc in
      let d : length (drop at s) ≡ length s - at = length-drop at s in
      let k = took local versions grease (drop at s) h e (length s) at (omega arith) in
      record { starts = sym i; some = omega (arith, k.some); inside = omega (arith, k.inside); header = rw j at k.header }

  -- a step that meets no packet
  never : (x : PacketStep) → packet_step_at s at local versions grease ≡ x → (x.met ≡ packet start len → ⊥) → Met-inside (packet_step_at s at local versions grease)
  never x e n f = absurd (n (sym (ap (λ (y : PacketStep). y.met) e) ∙ f))

  step_in_line : (a b c : Bool) → outside s local versions ≡ a → ltb 0 (length s) ≡ b → ltb at (length s) ≡ c
      → Met-inside (packet_step_at s at local versions grease)
  unfolding stop_at
  step_in_line true b c o f g = never _ (step_out s local versions grease at o) (λ e. let z : ◌≡◌ {A = ℕ} 0 1 = cc in omega arith)
  step_in_line false false c o f g =
      let l : length s ≤ 0 = ltb-false _ _ f in
      never _ (step_empty s local versions grease o at (omega arith)) (λ e. let z : ◌≡◌ {A = ℕ} 0 1 = cc in omega arith)
  step_in_line false true false o f g =
      never _ (step_end s local versions grease o at (ltb-true _ _ f) (ltb-false _ _ g)) (λ e. let z : ◌≡◌ {A = ℕ} 0 1 = cc in omega arith)
  step_in_line false true true o f g =
      let l : at < length s = ltb-true _ _ g in
      rw (step_in s local versions grease o at l) (on_inside l _ refl)

pub step_inside : StepsInside
step_inside s local versions grease at start len = step_in_line s local versions grease at start len _ _ _ refl refl refl
