-- A written header is read back, whatever stands past it, and whatever the bits of its first byte that do not steer: once over
-- any pair of tables of types and their inverses, by the version.
use Rattle.std.specs.Prelude.{if◌then◌else◌}
use Prim.Native.Nat.{ℕ, ◌+◌, ◌*◌, ◌/◌, ◌%◌, ◌^◌, ◌≤◌, ◌<◌}
use mathlib.Core.Path.{◌≡◌, refl, ap, ◌∙◌}
use mathlib.Core.List.{List, [], ◌∷◌, ◌++◌, append_assoc}
use mathlib.Core.Bool.{Bool, true, false}
use mathlib.Core.Logic.{◌⊎◌, ⊎_elim}
use mathlib.Core.Option.{none, some}
use native.Mathlib.Omega.{arith}
use lib.Dec.{ltb, eqb}
use lib.ListN.{length, length-append}
use borrow.Author.Tests.{le-leb, lt-ltb, le-ltb, eq-eqb, ne_eqb}
use Rattle.coding.specs.Words.{got, and_then}
use Rattle.coding.specs.Bytes.{be, bytes_be}
use Rattle.coding.specs.Places.{part_of}
use Rattle.coding.specs.Reading.{fixed_at, take_at}
use Rattle.coding.specs.Varint.{var_bytes, var_size}
use Rattle.coding.proofs.Laws.{length_var}
use Rattle.coding.proofs.Back.{part_back}
use Rattle.shared.specs.FirstByte.{long_header_form, fixed_bit}
use Rattle.shared.specs.Cid.{cid_of, cid_on, cid_bytes, long_bytes}
use Rattle.shared.specs.declared.cid.ConnectionId.{ConnectionId}
use Rattle.shared.proofs.Laws.{length_cid}
use Rattle.packet.specs.Header.{outside, unfixed, listed, headed, tail_at, body_at, long_at, short_at, first_at}
use Rattle.packet.specs.Header as read
use Rattle.packet.specs.TypeBits.{PacketType}
use Rattle.packet.specs.TypeBits as type
use Rattle.packet.proofs.Types.{Tables}
use Rattle.packet_out.specs.Encoding.{Plain, initial, zero_rtt, handshake, retry, short, negotiate, plain_number, bit_if, shape_by, names_bytes, token_bytes, length_bytes}
use Rattle.packet_out.specs.Back.{kind_read, version_read, src_read, token_place, end_read, read_as, Readable, Typed}
use Rattle.packet_out.proofs.Laws.{Kept, length_names}
use Rattle.packet_out.proofs.Fields.{ReadsAs, take_here, names_back, initial_back, length_back}

-- ---- the first byte

first_here : (b : ℕ) (l : List ℕ) → fixed_at 1 (b ∷ l) 0 ≡ got b 1
unfolding fixed_at be
first_here b l = let e : 0 * 256 + b ≡ b = omega arith in rw (le-leb 1 (length (b ∷ l)) (omega arith)) (ap (λ (x : ℕ). got x 1) e)

-- its fixed bit is set
fixed_set : (b : ℕ) (grease : Bool) → b / 64 % 2 ≡ 1 → unfixed b grease ≡ false
unfolding unfixed
fixed_set b true h = refl
fixed_set b false h = ne_eqb (b / 64 % 2) 0 (λ z. omega (arith, h, z))

-- a packet whose arguments keep their rules and whose first byte is not refused
begun : (types : ℕ → ℕ → PacketType) (b : ℕ) (l : List ℕ) (local : ℕ) (versions : List ℕ) (grease : Bool) → outside (b ∷ l) local versions ≡ false → unfixed b grease ≡ false
    → read.header_by types (b ∷ l) local versions grease ≡ (if ltb b 128 then short_at (b / 32) (b ∷ l) local else long_at types (b / 16) (b % 16) (b ∷ l) versions)
unfolding read.header_by first_at and_then
begun types b l local versions grease o u = rw (o, first_here b l, u)

-- ---- long headers

names_assoc : (v : ℕ) (dst src : ConnectionId) (q : List ℕ) → names_bytes (some v) dst src ++ q ≡ bytes_be 4 v ++ (long_bytes dst ++ (long_bytes src ++ q))
unfolding names_bytes
names_assoc v dst src q = simp append_assoc

module _ (types : ℕ → ℕ → PacketType) (dst src : ConnectionId) (to : dst.len ≤ 20) (from : src.len ≤ 20) (allTo : length dst.bytes ≡ 20) (all_from : length src.bytes ≡ 20)
    (b v : ℕ) (small : v < 2 ^ 32) (q : List ℕ) (local : ℕ) (versions : List ℕ) (grease : Bool)
    (o : outside (b ∷ (names_bytes (some v) dst src ++ q)) local versions ≡ false) (u : unfixed b grease ≡ false) (long : 128 ≤ b) where
  -- as far as the connection ids
  named : read.header_by types (b ∷ (names_bytes (some v) dst src ++ q)) local versions grease
      ≡ body_at types (b / 16) (b % 16) (b ∷ (names_bytes (some v) dst src ++ q)) versions v (cid_of (cid_bytes dst)) (cid_of (cid_bytes src)) (1 + length (names_bytes (some v) dst src))
  named =
      let a : 1 + length (names_bytes (some v) dst src) ≡ 5 + 1 + dst.len + 1 + src.len = omega (arith, length_names dst src (omega arith) v (omega arith)) in
      begun types b (names_bytes (some v) dst src ++ q) local versions grease o u
      ∙ rw (le-ltb b 128 long, a)
      (names_back dst src to from (omega arith) (omega arith) types (b / 16) (b % 16) _ versions b v q small (ap (λ (l : List ℕ). b ∷ l) (names_assoc v dst src q)))

  -- by the type, where the version is listed and not 0
  pub typed : (t : PacketType) → types v (b / 16 % 4) ≡ t → listed versions v ≡ true → (v ≡ 0 → ⊥)
      → read.header_by types (b ∷ (names_bytes (some v) dst src ++ q)) local versions grease
      ≡ tail_at t (headed (cid_of (cid_bytes dst)) (cid_of (cid_bytes src)) v) (b ∷ (names_bytes (some v) dst src ++ q)) (1 + length (names_bytes (some v) dst src))
  unfolding body_at
  typed t e l z = named ∙ rw (ne_eqb v 0 z, l, e)

  -- Version Negotiation
  pub negotiated : v ≡ 0 → read.header_by types (b ∷ (names_bytes (some v) dst src ++ q)) local versions grease
      ≡ headed (cid_of (cid_bytes dst)) (cid_of (cid_bytes src)) v (read.negotiate (b / 16 % 8 * 16 + b % 16)) (1 + length (names_bytes (some v) dst src))
  unfolding body_at
  negotiated z = named ∙ rw (eq-eqb v 0 z)

-- ---- short headers

module _ (types : ℕ → ℕ → PacketType) (dst src : ConnectionId) (to : dst.len ≤ 20) (all : length dst.bytes ≡ 20) (b : ℕ) (q versions : List ℕ) (grease : Bool)
    (o : outside (b ∷ (names_bytes none dst src ++ q)) dst.len versions ≡ false) (u : unfixed b grease ≡ false) (form : b < 128) where
  pub short_back : read.header_by types (b ∷ (names_bytes none dst src ++ q)) dst.len versions grease
      ≡ headed (cid_of (cid_bytes dst)) (cid_of []) 0 (read.short (eqb (b / 32 % 2) 1)) (1 + length (names_bytes none dst src))
  unfolding names_bytes short_at and_then cid_on
  short_back =
      let s : List ℕ = b ∷ (cid_bytes dst ++ q) in
      let l : length (cid_bytes dst) ≡ dst.len = length_cid dst (omega arith) in
      let t : take_at dst.len s 1 ≡ got (record { start = 1; len = dst.len }) (1 + dst.len) = rw l at (take_here s (b ∷ []) q 1 refl (cid_bytes dst) refl) in
      let c : part_of s (record { start = 1; len = dst.len }) ≡ cid_bytes dst = rw l at (part_back (b ∷ []) (cid_bytes dst) q) in
      begun types b (cid_bytes dst ++ q) dst.len versions grease o u ∙ rw (lt-ltb b 128 form, t, le-leb dst.len 20 to, c, l)

-- ---- any kind

greased : (b random : ℕ) (grease : Bool) → b ≡ long_header_form + random % long_header_form → (grease ≡ true) ⊎ (random / fixed_bit % 2 ≡ 1) → unfixed b grease ≡ false
unfolding unfixed
greased b random grease e = ⊎_elim (λ g. rw g) (λ h. fixed_set b grease (omega (arith, e, h)))

-- the bits of the first byte that steer
unfoldable pub Steers : (ℕ → PacketType → ℕ) → Plain → ℕ → Type 0
Steers bits (initial c v) b = b / 16 ≡ 12 + bits v type.initial
Steers bits (zero_rtt c v) b = b / 16 ≡ 12 + bits v type.zero_rtt
Steers bits (handshake c v) b = b / 16 ≡ 12 + bits v type.handshake
Steers bits (retry v) b = b / 16 ≡ 12 + bits v type.retry
Steers bits (short spin phase c) b = b / 32 ≡ 2 + bit_if spin 1
Steers bits (negotiate random) b = b ≡ long_header_form + random % long_header_form

pub bit_small : (spin : Bool) → bit_if spin 1 ≤ 1
bit_small true = omega arith
bit_small false = omega arith

spin_bit : (spin : Bool) (x : ℕ) → x ≡ 2 + bit_if spin 1 → eqb (x % 2) 1 ≡ spin
spin_bit true x e = eq-eqb (x % 2) 1 (omega (arith, e))
spin_bit false x e = ne_eqb (x % 2) 1 (λ z. omega (arith, e, z))

-- the bytes of a header up to its number, and past it
unfoldable pub up_to : (ℕ → PacketType → ℕ) → Plain → ConnectionId → ConnectionId → List ℕ → List ℕ → List ℕ → List ℕ
up_to bits p dst src token field past =
    names_bytes (shape_by bits p).version dst src ++ (token_bytes (shape_by bits p).has_token token ++ (length_bytes (shape_by bits p).has_length field ++ past))

module _ (types : ℕ → ℕ → PacketType) (bits : ℕ → PacketType → ℕ) (pair : Tables types bits) where
  -- the type of a byte that steers
  steered : (v : ℕ) (t : PacketType) (b : ℕ) → b / 16 ≡ 12 + bits v t → types v (b / 16 % 4) ≡ t
  steered v t b e = let k : b / 16 % 4 ≡ bits v t = omega (arith, e, (pair v).two t) in ap (types v) k ∙ (pair v).back t

  module _ (dst src : ConnectionId) (token field : List ℕ) (n m : ℕ) (past : List ℕ)
      (local : ℕ) (versions : List ℕ) (grease : Bool) where
    -- a long header with a version that is listed and not 0
    module _ (to : dst.len ≤ 20) (from : src.len ≤ 20) (allTo : length dst.bytes ≡ 20) (all_from : length src.bytes ≡ 20)
        (b v : ℕ) (thirtyTwo : v < 2 ^ 32) (t : PacketType) (e : b / 16 ≡ 12 + bits v t) (l : listed versions v ≡ true) (z : v ≡ 0 → ⊥) (q : List ℕ)
        (o : outside (b ∷ (names_bytes (some v) dst src ++ q)) local versions ≡ false) where
      long_back : read.header_by types (b ∷ (names_bytes (some v) dst src ++ q)) local versions grease
          ≡ tail_at t (headed (cid_of (cid_bytes dst)) (cid_of (cid_bytes src)) v) (b ∷ (names_bytes (some v) dst src ++ q)) (1 + length (names_bytes (some v) dst src))
      long_back =
          typed types dst src to from allTo all_from b v thirtyTwo q local versions grease o (fixed_set b grease (omega (arith, e, (pair v).two t))) (omega (arith, e)) t (steered v t b e) l z

    pub header_back_law : (p : Plain) (b : ℕ) → Steers bits p b → ((shape_by bits p).has_length ≡ true → ReadsAs field n m) → ((shape_by bits p).has_token ≡ true → length token < 2 ^ 62) → Kept (plain_number p) dst src → Typed p dst src → Readable p dst local versions grease
        → outside (b ∷ up_to bits p dst src token field past) local versions ≡ false
        → read.header_by types (b ∷ up_to bits p dst src token field past) local versions grease ≡ read_as bits p dst src token n m
    unfolding Steers Readable up_to read_as kind_read version_read src_read token_place end_read token_bytes length_bytes tail_at
    header_back_law (initial c v) b e r small k y d o =
        let w : List ℕ = b ∷ names_bytes (some v) dst src in
        let x : length (var_bytes (length token) ++ token) ≡ var_size (length token) + length token = simp (length-append, length_var) in
        let s : (var_bytes (length token) ++ token) ++ (field ++ past) ≡ var_bytes (length token) ++ (token ++ (field ++ past)) = append_assoc (var_bytes (length token)) token (field ++ past) in
        long_back k.to k.from y.to y.from b v y.version type.initial e d.0 d.1 _ o
        ∙ initial_back (headed (cid_of (cid_bytes dst)) (cid_of (cid_bytes src)) v) _ w past (1 + length (names_bytes (some v) dst src)) (omega arith) field n m (r refl) token (small refl) (ap (λ (l : List ℕ). w ++ l) s)
        ∙ ap (λ (z : ℕ). headed (cid_of (cid_bytes dst)) (cid_of (cid_bytes src)) v (read.initial (record { start = 1 + length (names_bytes (some v) dst src) + var_size (length token); len = length token }) n) z) (omega (arith, x))
    header_back_law (zero_rtt c v) b e r small k y d o =
        long_back k.to k.from y.to y.from b v y.version type.zero_rtt e d.0 d.1 _ o
        ∙ length_back (headed (cid_of (cid_bytes dst)) (cid_of (cid_bytes src)) v) _ (b ∷ names_bytes (some v) dst src) past (1 + length (names_bytes (some v) dst src)) (omega arith) field n m (r refl) read.zero_rtt refl
        ∙ ap (λ (z : ℕ). headed (cid_of (cid_bytes dst)) (cid_of (cid_bytes src)) v (read.zero_rtt n) z) (omega arith)
    header_back_law (handshake c v) b e r small k y d o =
        long_back k.to k.from y.to y.from b v y.version type.handshake e d.0 d.1 _ o
        ∙ length_back (headed (cid_of (cid_bytes dst)) (cid_of (cid_bytes src)) v) _ (b ∷ names_bytes (some v) dst src) past (1 + length (names_bytes (some v) dst src)) (omega arith) field n m (r refl) read.handshake refl
        ∙ ap (λ (z : ℕ). headed (cid_of (cid_bytes dst)) (cid_of (cid_bytes src)) v (read.handshake n) z) (omega arith)
    header_back_law (retry v) b e r small k y d o =
        long_back k.to k.from y.to y.from b v y.version type.retry e d.0 d.1 _ o
        ∙ ap (λ (z : ℕ). headed (cid_of (cid_bytes dst)) (cid_of (cid_bytes src)) v read.retry z) (omega arith)
    header_back_law (short spin phase c) b e r small k y d o =
        let f : bit_if spin 1 ≤ 1 = bit_small spin in
        rw d
        (short_back types dst src k.to y.to b _ versions grease (rw d at o) (fixed_set b grease (omega (arith, e, f))) (omega (arith, e, f))
        ∙ rw (spin_bit spin (b / 32) e) (ap (λ (z : ℕ). headed (cid_of (cid_bytes dst)) (cid_of []) 0 (read.short spin) z) (omega arith)))
    header_back_law (negotiate random) b e r small k y d o =
        let f : b / 16 % 8 * 16 + b % 16 ≡ random % 128 = omega (arith, e) in
        negotiated types dst src k.to k.from y.to y.from b 0 (omega arith) _ local versions grease o (greased b random grease e d) (omega (arith, e)) refl
        ∙ rw f (ap (λ (z : ℕ). headed (cid_of (cid_bytes dst)) (cid_of (cid_bytes src)) 0 (read.negotiate (random % 128)) z) (omega arith))
