-- A law of every way in which a header is read holds of what is said of it, whatever the type bits mean.
use mathlib.Core.Path.{◌≡◌, refl}
use Rattle.std.specs.Prelude.{ℕ, ◌+◌, ◌*◌, ◌/◌, ◌%◌, ◌≤◌, List, Bool, true, false, eqb, ltb, if◌then◌else◌}
use native.Mathlib.Omega.{arith}
use lib.ListN.{length}
use borrow.Author.Tests.{eq-eqb}
use Rattle.coding.specs.Words.{no, ok, and_then}
use Rattle.coding.specs.Reading.{fixed_at, take_at}
use Rattle.coding.specs.Varint.{var_at}
use Rattle.coding.proofs.Laws.{fixed_inside, take_inside, var_inside}
use Rattle.coding.proofs.Rules.{if_all, then_all}
use Rattle.shared.specs.FirstByte.{long_header_form, spin_bit}
use Rattle.shared.specs.Cid.{long_cid_at, cid_on}
use Rattle.shared.specs.declared.cid.ConnectionId.{ConnectionId}
use Rattle.shared.proofs.Laws.{long_inside}
use Rattle.packet.specs.TypeBits.{PacketType}
use Rattle.packet.specs.TypeBits as type
use Rattle.packet.specs.Split.{nowhere, token_in}
use Rattle.packet.specs.Header.{Header, initial, zero_rtt, handshake, retry, short, negotiate, Outcome, refused_header, listed, outside, unfixed, headed, initial_at, length_at, tail_at, body_at, long_at, short_at, first_at, header_by}

-- the fewest bytes that a header of each kind has
abbrev pub least : Header → ℕ
least (initial token len) = 9
least (zero_rtt len) = 8
least (handshake len) = 8
least retry = 7
least (short spin) = 1
least (negotiate bits) = 7

-- a header that was read ends at n or past it, has its fewest bytes, and ends inside; its token lies inside it
pub record Ends (s : List ℕ) (n : ℕ) (h : Header) (end : ℕ) : Type 0 where
  pub past : n ≤ end
  pub begun : least h ≤ end
  pub inside : end ≤ length s
  pub token : (token_in (ok h)).start + (token_in (ok h)).len ≤ end

-- a header with no token
bare : (s : List ℕ) (n : ℕ) (h : Header) (end : ℕ) → token_in (ok h) ≡ nowhere → n ≤ end → least h ≤ end → end ≤ length s → Ends s n h end
bare s n h end t a b c = record { past = a; begun = b; inside = c; token = rw t (omega arith) }

-- the three ways: a refusal that carries nothing, a version that is not listed, and a header that ends at n or past it
pub record Ways (s versions : List ℕ) (n : ℕ) (P : Outcome → Type 0) : Type 0 where
  pub refuses : (k : ℕ) → k ≤ 14 → (k ≡ 4 → ⊥) → P (refused_header k)
  pub unlisted : (dst src : ConnectionId) (v : ℕ) → listed versions v ≡ false → (v ≡ 0 → ⊥) → P (record { said = no 4; dst = dst; src = src; version = v; end = 0 })
  pub makes : (dst src : ConnectionId) (v : ℕ) (h : Header) (end : ℕ) → Ends s n h end → P (headed dst src v h end)

module _ (s versions : List ℕ) (P : Outcome → Type 0) where
  -- a later place asks less
  later : (n m : ℕ) → n ≤ m → Ways s versions n P → Ways s versions m P
  later n m l w =
      record {
        refuses = w.refuses;
        unlisted = w.unlisted;
        makes = λ dst src v h end e. w.makes dst src v h end (record { past = omega (arith, e.past); begun = e.begun; inside = e.inside; token = e.token });
      }

  module _ (dst src : ConnectionId) (v at : ℕ) (past : 7 ≤ at) (w : Ways s versions at P) where
    length_all : (kind : ℕ → Header) → ((len : ℕ) → (least (kind len) ≤ 8) × (token_in (ok (kind len)) ≡ nowhere)) → P (length_at kind (headed dst src v) s at)
    unfolding length_at
    length_all kind small =
        then_all P (var_at s at) _ _ (λ e. w.refuses 1 (omega arith) (λ z. omega (arith, z))) (λ len end e.
        let i = var_inside s at len end e in
        w.makes dst src v (kind len) end (bare s at (kind len) end (small len).1 (omega arith) (omega (arith, small len)) i.1))

    tail_all : (t : PacketType) → at ≤ length s → P (tail_at t (headed dst src v) s at)
    unfolding tail_at initial_at
    tail_all type.initial h =
        then_all P (var_at s at) _ _ (λ e. w.refuses 1 (omega arith) (λ z. omega (arith, z))) (λ n start e.
        then_all P (take_at n s start) _ _ (λ f. w.refuses 5 (omega arith) (λ z. omega (arith, z))) (λ token next f.
        then_all P (var_at s next) _ _ (λ g. w.refuses 1 (omega arith) (λ z. omega (arith, z))) (λ len end g.
        let i = var_inside s at n start e in
        let j = take_inside n s start token next f in
        let k = var_inside s next len end g in
        w.makes dst src v (initial token len) end (record { past = omega arith; begun = omega arith; inside = k.1; token = omega arith }))))
    tail_all type.zero_rtt h = length_all zero_rtt (λ len. (omega arith, refl))
    tail_all type.handshake h = length_all handshake (λ len. (omega arith, refl))
    tail_all type.retry h = w.makes dst src v retry at (bare s at retry at refl (omega arith) (omega arith) h)

  module _ (types : ℕ → ℕ → PacketType) where
    pub body_all : (steer rest v : ℕ) (dst src : ConnectionId) (at : ℕ) → 7 ≤ at → at ≤ length s → Ways s versions at P
        → P (body_at types steer rest s versions v dst src at)
    unfolding body_at
    body_all steer rest v dst src at past h w =
        let unlisted : Outcome = record { said = no 4; dst = dst; src = src; version = v; end = 0 } in
        let negotiation : Header = negotiate (steer % 8 * 16 + rest) in
        let tail : Outcome = tail_at (types v (steer % 4)) (headed dst src v) s at in
        if_all P (eqb v 0) (headed dst src v negotiation at) (if listed versions v then tail else unlisted)
        (λ b. w.makes dst src v negotiation at (bare s at negotiation at refl (omega arith) past h)) (λ b.
        if_all P (listed versions v) tail unlisted (λ c. tail_all dst src v at past w (types v (steer % 4)) h) (λ c.
        w.unlisted dst src v c (λ z. let t : true ≡ false = rw (eq-eqb v 0 z) at b in let i : ◌≡◌ {A = ℕ} 0 1 = cc in omega arith)))

    module _ (w : Ways s versions 1 P) where
      long_all : (steer rest : ℕ) → P (long_at types steer rest s versions)
      unfolding long_at
      long_all steer rest =
          then_all P (fixed_at 4 s 1) _ _ (λ e. w.refuses 1 (omega arith) (λ z. omega (arith, z))) (λ v n e.
          then_all P (long_cid_at s n) _ _ (λ f. w.refuses 3 (omega arith) (λ z. omega (arith, z))) (λ to m f.
          then_all P (long_cid_at s m) _ _ (λ g. w.refuses 3 (omega arith) (λ z. omega (arith, z))) (λ from at g.
          let i = fixed_inside 4 s 1 v n e in
          let j = long_inside s n to m f in
          let k = long_inside s m from at g in
          body_all steer rest v (cid_on s to) (cid_on s from) at (omega arith) k.inside (later 1 at (omega arith) w))))

      short_all : (steer local : ℕ) → P (short_at steer s local)
      unfolding short_at
      short_all steer local =
          then_all P (take_at local s 1) _ _ (λ e. w.refuses 6 (omega arith) (λ z. omega (arith, z))) (λ to at e.
          let i = take_inside local s 1 to at e in
          w.makes (cid_on s to) _ 0 _ at (bare s 1 _ at refl (omega arith) (omega arith) i.1.1))

      pub header_all : (local : ℕ) (grease : Bool) → P (header_by types s local versions grease)
      unfolding header_by first_at
      header_all local grease =
          let by : ℕ → Outcome = λ first. first_at types first s local versions grease in
          let read : Outcome = and_then (fixed_at 1 s 0) (refused_header 1) (λ first n. by first) in
          if_all P (outside s local versions) (refused_header 14) read (λ b. w.refuses 14 (omega arith) (λ z. omega (arith, z))) (λ b.
          then_all P (fixed_at 1 s 0) (refused_header 1) (λ first n. by first) (λ e. w.refuses 1 (omega arith) (λ z. omega (arith, z))) (λ first n e.
          let brief : Outcome = short_at (first / spin_bit) s local in
          let long : Outcome = long_at types (first / 16) (first % 16) s versions in
          if_all P (unfixed first grease) (refused_header 2) (if ltb first long_header_form then brief else long) (λ c. w.refuses 2 (omega arith) (λ z. omega (arith, z))) (λ c.
          if_all P (ltb first long_header_form) brief long (λ d. short_all (first / spin_bit) local) (λ d. long_all (first / 16) (first % 16)))))
