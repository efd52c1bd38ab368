-- Where the connection ids and the token of a header that was read stand, whatever the type bits mean.
use Rattle.std.specs.Prelude.{◌*◌, ◌/◌, ◌%◌, eqb, if◌then◌else◌}
use mathlib.Core.Path.{◌≡◌, refl, sym, ap, ◌∙◌}
use mathlib.Core.List.{List, []}
use mathlib.Core.Bool.{Bool, true, false, ◌||◌}
use Prim.Native.Nat.{ℕ, ◌+◌, ◌≤◌}
use native.Mathlib.Omega.{arith}
use lib.ListN.{length, take, drop, length-take, length-drop}
use lib.Dec.{ltb}
use borrow.Author.Tests.{le-leb, ltb-false, eqb-false}
use Rattle.std.proofs.lemmas.Bool.{or_parts}
use Rattle.coding.specs.Words.{Answer, no, ok, and_then}
use Rattle.coding.specs.Places.{part_of}
use Rattle.coding.specs.Reading.{fixed_at, take_at}
use Rattle.coding.specs.Varint.{var_at}
use Rattle.coding.specs.declared.Place.{Place}
use Rattle.coding.proofs.Laws.{fixed_inside, take_inside, var_inside}
use Rattle.coding.proofs.Rules.{if_all, then_all}
use Rattle.shared.specs.FirstByte.{long_header_form, spin_bit}
use Rattle.shared.specs.Cid.{long_cid_at, cid_of, cid_on}
use Rattle.shared.specs.declared.cid.ConnectionId.{ConnectionId}
use Rattle.shared.proofs.Laws.{long_inside}
use Rattle.packet.specs.TypeBits.{PacketType}
use Rattle.packet.specs.TypeBits as type
use Rattle.packet.specs.Split.{token_in}
use Rattle.packet.specs.Header.{Header, initial, zero_rtt, handshake, retry, short, negotiate, Outcome, is_long, refused_header, listed, unfixed, headed, initial_at, length_at, tail_at, body_at, long_at, short_at, first_at, outside, header_by}

abbrev placed : ℕ → ℕ → Place
placed start len = record { start = start; len = len }

-- the bytes at a place inside, as the connection id that was read there
pub cid_at : (s : List ℕ) (p : Place) → p.len ≤ 20 → p.start + p.len ≤ length s
    → ((cid_on s p).len ≡ p.len) × (cid_of (part_of s p) ≡ cid_on s p)
unfolding cid_on cid_of part_of
cid_at s p h k =
    let l : length (take p.len (drop p.start s)) ≡ p.len = simp (length-take, length-drop) (omega arith) in
    (rw (le-leb p.len 20 h, le-leb (p.start + p.len) (length s) k) l, rw (le-leb p.len 20 h))

module _ (s : List ℕ) where
  -- in a long header: each behind a byte with its length
  pub record InLong (o : Outcome) (end : ℕ) : Type 0 where
    pub to : cid_of (part_of s (placed 6 o.dst.len)) ≡ o.dst
    pub from : cid_of (part_of s (placed (7 + o.dst.len) o.src.len)) ≡ o.src
    pub past : 7 + o.dst.len + o.src.len ≤ end

  -- in a short one
  pub record InShort (o : Outcome) : Type 0 where
    pub to : cid_of (part_of s (placed 1 o.dst.len)) ≡ o.dst
    pub from : o.src ≡ cid_of []
    pub past : 1 + o.dst.len ≤ o.end

  -- nowhere
  pub record Unread (o : Outcome) : Type 0 where
    pub to : o.dst ≡ cid_of []
    pub from : o.src ≡ cid_of []

  -- by the header's form
  abbrev pub Placed : Bool → Outcome → Type 0
  Placed true o = InLong o o.end
  Placed false o = InShort o

  -- the ids so, and the token before the header's end; or by the refusal
  abbrev pub Located : Answer Header → Outcome → Type 0
  Located (ok x) o = Placed (is_long (ok x)) o × ((token_in (ok x)).start + (token_in (ok x)).len ≤ o.end)
  Located (no k) o = (k ≡ 0 → ⊥) × ((k ≡ 4 → (end : ℕ) × InLong o end) × ((k ≡ 4 → ⊥) → Unread o))

  -- an Initial's ids end before its token
  abbrev pub Apart : Header → Outcome → Type 0
  Apart (initial token len) o = 7 + o.dst.len + o.src.len ≤ token.start
  Apart (zero_rtt len) o = Unit
  Apart (handshake len) o = Unit
  Apart retry o = Unit
  Apart (short spin) o = Unit
  Apart (negotiate bits) o = Unit

  abbrev pub Stand : Answer Header → Outcome → Type 0
  Stand (ok x) o = Located (ok x) o × Apart x o
  Stand (no k) o = Located (no k) o

  pub located : (a : Answer Header) (o : Outcome) → Stand a o → Located a o
  located (ok x) o h = h.0
  located (no k) o h = h

  abbrev pub Stands : Outcome → Type 0
  Stands o = Stand o.said o

  pub refused : (k : ℕ) → eqb k 0 ≡ false → eqb k 4 ≡ false → Stands (refused_header k)
  refused k z f = (eqb-false k 0 z, (λ e. absurd (eqb-false k 4 f e), λ _. record { to = refl; from = refl }))

  module _ (dst src : ConnectionId) (v at : ℕ)
      (to : cid_of (part_of s (placed 6 dst.len)) ≡ dst) (from : cid_of (part_of s (placed (7 + dst.len) src.len)) ≡ src) (past : 7 + dst.len + src.len ≤ at) where
    long : (o : Outcome) (end : ℕ) → o.dst ≡ dst → o.src ≡ src → at ≤ end → InLong o end
    long o end p q h = record { to = rw p to; from = rw (p, q) from; past = rw (p, q) (omega (arith, past, h)) }

    length_stands : (kind : ℕ → Header) → ((len end : ℕ) → at ≤ end → Stands (headed dst src v (kind len) end)) → Stands (length_at kind (headed dst src v) s at)
    unfolding length_at
    length_stands kind f =
        then_all Stands (var_at s at) _ _ (λ e. refused 1 refl refl) (λ len end e.
        let i = var_inside s at len end e in
        f len end (omega (arith, i)))

    tail_stands : (t : PacketType) → Stands (tail_at t (headed dst src v) s at)
    unfolding tail_at initial_at headed
    tail_stands type.initial =
        then_all Stands (var_at s at) _ _ (λ e. refused 1 refl refl) (λ n start e.
        then_all Stands (take_at n s start) _ _ (λ f. refused 5 refl refl) (λ token next f.
        then_all Stands (var_at s next) _ _ (λ g. refused 1 refl refl) (λ len end g.
        let i = var_inside s at n start e in
        let j = take_inside n s start token next f in
        let k = var_inside s next len end g in
        ((long _ end refl refl (omega (arith, i, j, k)), omega (arith, j, k)), omega (arith, past, i, j)))))
    tail_stands type.zero_rtt = length_stands zero_rtt (λ len end h. ((long _ end refl refl h, omega arith), tt))
    tail_stands type.handshake = length_stands handshake (λ len end h. ((long _ end refl refl h, omega arith), tt))
    tail_stands type.retry = ((long _ at refl refl (omega arith), omega arith), tt)

    body_stands : (types : ℕ → ℕ → PacketType) (steer rest : ℕ) (versions : List ℕ) → Stands (body_at types steer rest s versions v dst src at)
    unfolding body_at headed
    body_stands types steer rest versions =
        let unlisted : Outcome = record { said = no 4; dst = dst; src = src; version = v; end = 0 } in
        let negotiation : Outcome = headed dst src v (negotiate (steer % 8 * 16 + rest)) at in
        let tail : Outcome = tail_at (types v (steer % 4)) (headed dst src v) s at in
        if_all Stands (eqb v 0) negotiation (if listed versions v then tail else unlisted) (λ b. ((long _ at refl refl (omega arith), omega arith), tt)) (λ b.
        if_all Stands (listed versions v) tail unlisted (λ c. tail_stands (types v (steer % 4))) (λ c.
        (λ z. omega (arith, z), (λ e. (at, long _ at refl refl (omega arith)), λ e. absurd (e refl)))))

  module _ (types : ℕ → ℕ → PacketType) where
    long_stands : (steer rest : ℕ) (versions : List ℕ) → Stands (long_at types steer rest s versions)
    unfolding long_at
    long_stands steer rest versions =
        then_all Stands (fixed_at 4 s 1) _ _ (λ e. refused 1 refl refl) (λ v n e.
        then_all Stands (long_cid_at s n) _ _ (λ f. refused 3 refl refl) (λ to m f.
        then_all Stands (long_cid_at s m) _ _ (λ g. refused 3 refl refl) (λ from at g.
        let i = fixed_inside 4 s 1 v n e in
        let j = long_inside s n to m f in
        let k = long_inside s m from at g in
        let a = cid_at s to j.short (omega (arith, j, k)) in
        let b = cid_at s from k.short (omega (arith, k)) in
        let p : to.start ≡ 6 = omega (arith, i, j) in
        let q : from.start ≡ 7 + (cid_on s to).len = omega (arith, i, j, k, a.0) in
        body_stands (cid_on s to) (cid_on s from) v at
        (ap (λ (x : Place). cid_of (part_of s x)) (λ i. record { start = sym p i; len = a.0 i }) ∙ a.1)
        (ap (λ (x : Place). cid_of (part_of s x)) (λ i. record { start = sym q i; len = b.0 i }) ∙ b.1)
        (omega (arith, j, k, p, q, a.0, b.0)) types steer rest versions)))

    short_stands : (steer local : ℕ) → local ≤ 20 → Stands (short_at steer s local)
    unfolding short_at headed
    short_stands steer local few =
        then_all Stands (take_at local s 1) _ _ (λ e. refused 6 refl refl) (λ to at e.
        let i = take_inside local s 1 to at e in
        let a = cid_at s to (omega (arith, i, few)) (omega (arith, i)) in (
          (
            record {
              to = ap (λ (x : Place). cid_of (part_of s x)) (λ j. record { start = sym i.0.0 j; len = a.0 j }) ∙ a.1;
              from = refl;
              past = omega (arith, i, a.0);
            },
            omega arith,
          ),
          tt,
        ))

    pub header_stands : (local : ℕ) (versions : List ℕ) (grease : Bool) → Stands (header_by types s local versions grease)
    unfolding header_by first_at outside
    header_stands local versions grease =
        let by : ℕ → Outcome = λ first. first_at types first s local versions grease in
        let read : Outcome = and_then (fixed_at 1 s 0) (refused_header 1) (λ first n. by first) in
        if_all Stands (outside s local versions) (refused_header 14) read (λ b. refused 14 refl refl) (λ b.
        then_all Stands (fixed_at 1 s 0) (refused_header 1) (λ first n. by first) (λ e. refused 1 refl refl) (λ first n e.
        let brief : Outcome = short_at (first / spin_bit) s local in
        let longer : Outcome = long_at types (first / 16) (first % 16) s versions in
        if_all Stands (unfixed first grease) (refused_header 2) (if ltb first long_header_form then brief else longer) (λ c. refused 2 refl refl) (λ c.
        if_all Stands (ltb first long_header_form) brief longer (λ d. short_stands (first / spin_bit) local (within_local b)) (λ d. long_stands (first / 16) (first % 16) versions))))
      where
        within_local : outside s local versions ≡ false → local ≤ 20
        within_local b =
            let e = or_parts (ltb 65527 (length s) || ltb 20 local) (ltb 16 (length versions)) b in
            ltb-false 20 local (or_parts (ltb 65527 (length s)) (ltb 20 local) e.0).1
