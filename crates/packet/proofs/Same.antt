-- What a header's reading looks at: the bits of byte 0 that steer, and the bytes up to the header's end. Two datagrams of equal
-- length that agree there get equal answers, whatever the type bits mean.
use Rattle.std.specs.Prelude.{if◌then◌else◌}
use mathlib.Core.Path.{◌≡◌, refl, sym, ap, ◌∙◌}
use mathlib.Core.List.{List, [], ◌∷◌}
use mathlib.Core.Bool.{Bool, true, false}
use Prim.Native.Nat.{ℕ, suc, ◌+◌, ◌-◌, ◌*◌, ◌/◌, ◌%◌, ◌≤◌, ◌<◌}
use native.Mathlib.Omega.{arith}
use lib.ListN.{length, take, drop, get_or, length-take, length-drop}
use lib.Seq.{get_or-take, get_or-drop, ext_get_or}
use lib.Dec.{ltb, eqb}
use borrow.Author.Tests.{ltb-true, ltb-false, lt-ltb, le-ltb, le-leb}
use Rattle.coding.specs.Words.{got, and_then, ok}
use Rattle.coding.specs.Bytes.{byte_at, be}
use Rattle.coding.specs.Places.{part_of}
use Rattle.coding.specs.Reading.{fixed_at, take_at}
use Rattle.coding.specs.Varint.{var_at, var_len}
use Rattle.coding.specs.declared.Place.{Place}
use Rattle.coding.proofs.Laws.{fixed_inside, take_inside, var_inside, read_var}
use Rattle.coding.proofs.Rules.{then_all}
use Rattle.shared.specs.Cid.{long_cid_at, cid_on}
use Rattle.shared.specs.declared.cid.ConnectionId.{ConnectionId}
use Rattle.shared.proofs.Laws.{long_inside}
use Rattle.packet.specs.TypeBits.{PacketType}
use Rattle.packet.specs.TypeBits as type
use Rattle.packet.specs.Header.{Header, zero_rtt, handshake, negotiate, Outcome, refused_header, outside, unfixed, listed, headed, initial_at, length_at, tail_at, body_at, long_at, short_at, first_at, header_by}
use Rattle.packet.proofs.Within.{body_within}

-- a refusal is no header
refused_not : {P : Type 0} (k : ℕ) (h : Header) → (refused_header k).said ≡ ok h → P
refused_not k h p = let z : ◌≡◌ {A = ℕ} 0 1 = cc in absurd (omega arith)

-- y is x, where x has the header h and ends at `end` at the latest
abbrev Goes : Header → ℕ → Outcome → Outcome → Type 0
Goes h end y x = x.said ≡ ok h → x.end ≤ end → y ≡ x

if_same : (h : Header) (end : ℕ) (b : Bool) (y y' x x' : Outcome) → Goes h end y x → Goes h end y' x' → Goes h end (if b then y else y') (if b then x else x')
if_same h end true y y' x x' f g = f
if_same h end false y y' x x' f g = g

-- the bits of byte 0 that steer, form bit, fixed bit and type or spin bit, are the same; the rest counts in Version Negotiation alone
pub record Steers (h : Header) (b c : ℕ) : Type 0 where
  pub long : 128 ≤ b → b / 16 ≡ c / 16
  pub short : b < 128 → b / 32 ≡ c / 32
  pub rest : (x : ℕ) → h ≡ negotiate x → b % 16 ≡ c % 16

-- byte 0
first_byte : (u : List ℕ) → 0 < length u → fixed_at 1 u 0 ≡ got (byte_at u 0) 1
unfolding fixed_at be
first_byte [] h = absurd (omega arith)
first_byte (x ∷ u) h = rw (le-leb 1 (suc (length u)) (omega arith)) (ap (λ (v : ℕ). got v 1) (omega arith))

module _ (s t : List ℕ) (end : ℕ) (long : length s ≡ length t) (same : (i : ℕ) → 0 < i → i < end → byte_at s i ≡ byte_at t i) where
  -- ---- fields

  bytes_same : (at n : ℕ) → 0 < at → at + n ≤ end → at + n ≤ length s → take n (drop at s) ≡ take n (drop at t)
  bytes_same at n pos e l =
      ext_get_or 0 (take n (drop at s)) (take n (drop at t)) (simp (length-take, length-drop) (omega arith)) (λ i h.
      let k : i < n = omega (arith, simp length-take at h) in
      rw (get_or-take n (drop at s) i 0 k, get_or-take n (drop at t) i 0 k, get_or-drop, get_or-drop) (same (at + i) (omega arith) (omega arith)))

  fixed_same : (n at : ℕ) → 0 < at → at + n ≤ end → at + n ≤ length s → fixed_at n t at ≡ fixed_at n s at
  unfolding fixed_at
  fixed_same n at pos e l = rw (← long, ← bytes_same at n pos e l)

  take_same : (n at : ℕ) → take_at n t at ≡ take_at n s at
  unfolding take_at
  take_same n at = rw (← long)

  var_same : (at v m : ℕ) → 0 < at → var_at s at ≡ got v m → m ≤ end → var_at t at ≡ got v m
  unfolding var_at
  var_same at v m pos e h =
      let r = read_var s at v m e in
      let i = var_inside s at v m e in
      let b : get_or t at 0 ≡ get_or s at 0 = sym (same at pos (omega arith)) in
      let d : take (var_len (byte_at s at) - 1) (drop (at + 1) t) ≡ take (var_len (byte_at s at) - 1) (drop (at + 1) s) =
      sym (bytes_same (at + 1) (var_len (byte_at s at) - 1) (omega arith) (omega arith) (omega arith))
      in
      rw (← long, b, d) e

  cid_same : (at : ℕ) (p : Place) (m : ℕ) → 0 < at → long_cid_at s at ≡ got p m → m ≤ end → long_cid_at t at ≡ got p m
  unfolding long_cid_at
  cid_same at p m pos e h =
      let i = long_inside s at p m e in
      rw (fixed_same 1 at pos (omega arith) (omega arith)) (simp take_same e)

  part_same : (p : Place) → 0 < p.start → p.start + p.len ≤ end → p.start + p.len ≤ length s → cid_on t p ≡ cid_on s p
  unfolding cid_on part_of
  part_same p pos e l = rw (← long, ← bytes_same p.start p.len pos e l)

  -- ---- long headers

  module _ (h : Header) (dst src : ConnectionId) (v at : ℕ) (pos : 0 < at) where
    length_same : (kind : ℕ → Header) → Goes h end (length_at kind (headed dst src v) t at) (length_at kind (headed dst src v) s at)
    unfolding length_at headed and_then
    length_same kind =
        then_all (Goes h end (length_at kind (headed dst src v) t at)) (var_at s at) _ _ (λ e p q. refused_not 1 h p) (λ len fin e p q. rw (var_same at len fin pos e q))

    tail_same : (ty : PacketType) → Goes h end (tail_at ty (headed dst src v) t at) (tail_at ty (headed dst src v) s at)
    unfolding tail_at initial_at headed and_then
    tail_same type.initial =
        let P = Goes h end (initial_at (headed dst src v) t at) in
        then_all P (var_at s at) _ _ (λ e p q. refused_not 1 h p) (λ n start e.
        then_all P (take_at n s start) _ _ (λ f p q. refused_not 5 h p) (λ token next f.
        then_all P (var_at s next) _ _ (λ g p q. refused_not 1 h p) (λ len fin g p q.
        let i = var_inside s at n start e in
        let j = take_inside n s start token next f in
        let k = var_inside s next len fin g in
        rw (var_same at n start pos e (omega arith), take_same n start ∙ f, var_same next len fin (omega arith) g q))))
    tail_same type.zero_rtt = length_same zero_rtt
    tail_same type.handshake = length_same handshake
    tail_same type.retry = λ p q. refl

  module _ (types : ℕ → ℕ → PacketType) (h : Header) where
    module _ (steer rest low : ℕ) (versions : List ℕ) (free : (x : ℕ) → h ≡ negotiate x → rest ≡ low) where
      body_same : (v : ℕ) (dst src : ConnectionId) (at : ℕ) → 0 < at
          → Goes h end (body_at types steer low t versions v dst src at) (body_at types steer rest s versions v dst src at)
      unfolding body_at headed
      body_same v dst src at pos =
          if_same h end (eqb v 0) _ _ _ _
          (λ p q.
          let e : h ≡ negotiate (steer % 8 * 16 + rest) = cc in
          ap (λ (z : ℕ). headed dst src v (negotiate (steer % 8 * 16 + z)) at) (sym (free _ e)))
          (if_same h end (listed versions v) _ _ _ _ (tail_same h dst src v at pos (types v (steer % 4))) (λ p q. refl))

      long_same : Goes h end (long_at types steer low t versions) (long_at types steer rest s versions)
      unfolding long_at and_then
      long_same =
          let P = Goes h end (long_at types steer low t versions) in
          then_all P (fixed_at 4 s 1) _ _ (λ e p q. refused_not 1 h p) (λ v n e.
          then_all P (long_cid_at s n) _ _ (λ f p q. refused_not 3 h p) (λ to m f.
          then_all P (long_cid_at s m) _ _ (λ g p q. refused_not 3 h p) (λ from at g p q.
          let i = fixed_inside 4 s 1 v n e in
          let j = long_inside s n to m f in
          let k = long_inside s m from at g in
          let w = (body_within s types steer rest versions v (cid_on s to) (cid_on s from) at (omega arith) k.inside).0 h p in
          rw (
            fixed_same 4 1 (omega arith) (omega arith) (omega arith) ∙ e,
            cid_same n to m (omega arith) f (omega arith),
            cid_same m from at (omega arith) g (omega arith),
            part_same to (omega arith) (omega arith) (omega arith),
            part_same from (omega arith) (omega arith) (omega arith),
          )
          (body_same v (cid_on s to) (cid_on s from) at (omega arith) p q))))

    short_same : (steer local : ℕ) → Goes h end (short_at steer t local) (short_at steer s local)
    unfolding short_at headed and_then
    short_same steer local =
        then_all (Goes h end (short_at steer t local)) (take_at local s 1) _ _ (λ e p q. refused_not 6 h p) (λ to at e p q.
        let i = take_inside local s 1 to at e in
        rw (take_same local 1 ∙ e, part_same to (omega arith) (omega arith) (omega arith)))

    -- ---- byte 0 taken apart

    module _ (b c local : ℕ) (versions : List ℕ) (grease : Bool) where
      first_long : 128 ≤ b → b / 16 ≡ c / 16 → ((x : ℕ) → h ≡ negotiate x → b % 16 ≡ c % 16)
          → Goes h end (first_at types c t local versions grease) (first_at types b s local versions grease)
      unfolding first_at unfixed
      first_long l e free =
          let k : 128 ≤ c = omega arith in
          let f : c / 64 % 2 ≡ b / 64 % 2 = omega arith in
          rw (le-ltb b 128 l, le-ltb c 128 k, f, ← e) (if_same h end (unfixed b grease) (refused_header 2) (long_at types (b / 16) (c % 16) t versions) (refused_header 2) (long_at types (b / 16) (b % 16) s versions)
          (λ p q. refl)
          (long_same (b / 16) (b % 16) (c % 16) versions free))

      first_short : b < 128 → b / 32 ≡ c / 32 → Goes h end (first_at types c t local versions grease) (first_at types b s local versions grease)
      unfolding first_at unfixed
      first_short l e =
          let k : c < 128 = omega arith in
          let f : c / 64 % 2 ≡ b / 64 % 2 = omega arith in
          rw (lt-ltb b 128 l, lt-ltb c 128 k, f, ← e) (if_same h end (unfixed b grease) (refused_header 2) (short_at (b / 32) t local) (refused_header 2) (short_at (b / 32) s local) (λ p q. refl) (short_same (b / 32) local))

    module _ (local : ℕ) (versions : List ℕ) (grease : Bool) where
      abbrev past : List ℕ → Outcome
      past u = and_then (fixed_at 1 u 0) (refused_header 1) (λ first n. first_at types first u local versions grease)

      module _ (steers : Steers h (byte_at s 0) (byte_at t 0)) where
        form_same : (x : Bool) → ltb (byte_at s 0) 128 ≡ x
            → Goes h end (first_at types (byte_at t 0) t local versions grease) (first_at types (byte_at s 0) s local versions grease)
        form_same true e = let l = ltb-true _ _ e in first_short (byte_at s 0) (byte_at t 0) local versions grease l (steers.short l)
        form_same false e =
            let l = ltb-false _ _ e in
            first_long (byte_at s 0) (byte_at t 0) local versions grease l (steers.long l) steers.rest

        first_same : (f n : ℕ) → fixed_at 1 s 0 ≡ got f n
            → Goes h end (past t) (first_at types f s local versions grease)
        unfolding and_then
        first_same f n e =
            let i = fixed_inside 1 s 0 f n e in
            let w : f ≡ byte_at s 0 = cc (first_byte s (omega arith)) in
            rw (first_byte t (omega arith), w) (form_same _ refl)

        all_same : Goes h end (header_by types t local versions grease) (header_by types s local versions grease)
        unfolding header_by outside
        all_same =
            rw (← long)
            (if_same h end (outside s local versions) (refused_header 14) (past t) (refused_header 14) (past s) (λ p q. refl)
            (then_all (Goes h end (past t)) (fixed_at 1 s 0) _ _
            (λ e p q. refused_not 1 h p)
            first_same))

-- nothing past the header is read, and of byte 0 only the bits that steer
pub header_same : (types : ℕ → ℕ → PacketType) (s t : List ℕ) (local : ℕ) (versions : List ℕ) (grease : Bool) (h : Header)
    → (header_by types s local versions grease).said ≡ ok h
    → length s ≡ length t
    → Steers h (byte_at s 0) (byte_at t 0)
    → ((i : ℕ) → 0 < i → i < (header_by types s local versions grease).end → byte_at s i ≡ byte_at t i)
    → header_by types t local versions grease ≡ header_by types s local versions grease
header_same types s t local versions grease h said long steers same =
    all_same s t (header_by types s local versions grease).end long same types h local versions grease steers said (omega arith)
