-- A header with a number on its way out: the Length step sets its Length and nothing else, the mask step leaves the bits that steer;
-- whatever the bits of its type.
use Prim.Native.Nat.{ℕ, ◌+◌, ◌-◌, ◌*◌, ◌/◌, ◌%◌, ◌^◌, ◌≤◌, ◌<◌}
use mathlib.Core.Path.{◌≡◌, refl, sym, ap, ◌∙◌}
use mathlib.Core.List.{List, ◌∷◌, ◌++◌, append_assoc}
use mathlib.Core.Bool.{Bool, true, false}
use mathlib.Core.Option.{some}
use native.Mathlib.Omega.{arith}
use lib.Bits.{bit_and, bit_xor, and_high, xor_shr, xor_zero_r}
use lib.Dec.{eqb}
use lib.ListN.{length, take, drop, length-append}
use lib.Seq.{take_at, drop_at, drop-append-add}
use borrow.Author.Tests.{le-leb, eq-eqb}
use Rattle.coding.specs.Words.{ok}
use Rattle.coding.specs.Bytes.{byte_at, splice}
use Rattle.coding.proofs.Laws.{length_bytes_be}
use Rattle.shared.specs.FirstByte.{long_header_form, fixed_bit, spin_bit, key_phase_bit, long_reserved_bits, short_reserved_bits}
use Rattle.shared.specs.declared.cid.ConnectionId.{ConnectionId}
use Rattle.shared.specs.declared.kinds.CutNumber.{CutNumber}
use Rattle.number.specs.Cutting.{is_cut, length_bits, tag_length}
use Rattle.packet.specs.TypeBits.{PacketType}
use Rattle.packet.specs.TypeBits as type
use Rattle.protect.specs.Protection.{xor, xor_at, number_mask, first_mask, masked}
use Rattle.protect.specs.Tests.{form_bit, header_tests}
use Rattle.protect.specs.Steps as protect
use Rattle.protect.specs.Steps.{opened_by}
use Rattle.packet_out.specs.Encoding.{Plain, initial, zero_rtt, handshake, retry, short, negotiate, plain_number, bit_if, long_first, short_first, shape_by, shape_bytes, names_bytes, token_bytes, length_bytes, number_field, written_header, header_bytes, placeholder}
use Rattle.packet_out.specs.Length.{length_field, length_set}
use Rattle.packet_out.specs.Back.{opened_as}
use Rattle.packet_out.proofs.Laws.{cut_short, length_shape, length_fields, length_number, set_none, set_on, into_ok}
use Rattle.packet_out.proofs.HeaderBack.{Steers, up_to, bit_small}

-- ---- the Length, in its place

splice_mid : (a x y b : List ℕ) (at : ℕ) → at ≡ length a → length x ≡ length y → splice (a ++ (x ++ b)) at y ≡ a ++ (y ++ b)
unfolding splice
splice_mid a x y b at e l =
    let t : take at (a ++ (x ++ b)) ≡ a = take_at a (x ++ b) at (sym e) in
    let d : drop (at + length y) (a ++ (x ++ b)) ≡ b = rw e (drop-append-add a (x ++ b) (length y) ∙ drop_at x b (length y) l) in
    rw (t, d) (simp append_assoc)

pub length_field_law : (n : ℕ) → length (length_field n) ≡ 2
unfolding length_field
length_field_law n = length_bytes_be 2 (2 ^ 14 + n)

module _ (bits : ℕ → PacketType → ℕ) (p : Plain) (dst src : ConnectionId) (token : List ℕ) where
  -- before the Length, and before the number
  before : List ℕ
  before = (shape_by bits p).first ∷ (names_bytes (shape_by bits p).version dst src ++ token_bytes (shape_by bits p).has_token token)

  pub up_to_number : List ℕ → List ℕ
  up_to_number field =
      names_bytes (shape_by bits p).version dst src ++ (token_bytes (shape_by bits p).has_token token ++ length_bytes (shape_by bits p).has_length field)

  with_length : (field : List ℕ) → (shape_by bits p).has_length ≡ true
      → written_header bits field p dst src token ≡ before ++ (field ++ number_field (plain_number p))
  unfolding before written_header shape_bytes length_bytes
  with_length field h = rw h (ap (λ (l : List ℕ). (shape_by bits p).first ∷ l) (simp append_assoc))

  pub without : (x y : List ℕ) → (shape_by bits p).has_length ≡ false → written_header bits x p dst src token ≡ written_header bits y p dst src token
  unfolding written_header shape_bytes length_bytes
  without x y h = rw h

  pub numbered : (field past : List ℕ) → up_to bits p dst src token field past ≡ up_to_number field ++ past
  unfolding up_to up_to_number
  numbered field past = simp append_assoc

  -- lengths
  pub length_header : (x y : List ℕ) → length x ≡ length y → length (written_header bits x p dst src token) ≡ length (written_header bits y p dst src token)
  unfolding written_header
  length_header x y = length_fields x y (shape_by bits p) (plain_number p) dst src token

  module _ (c : CutNumber) (is : plain_number p ≡ some c) where
    pub number_len : length (number_field (plain_number p)) ≡ c.0
    number_len = rw is (length_number c)

    -- the number's offset
    pub offset : (field : List ℕ) → length (written_header bits field p dst src token) ≡ 1 + length (up_to_number field) + c.0
    unfolding written_header up_to_number
    offset field =
        let l : length (names_bytes (shape_by bits p).version dst src ++ (token_bytes (shape_by bits p).has_token token ++ length_bytes (shape_by bits p).has_length field))
        ≡ length (names_bytes (shape_by bits p).version dst src) + (length (token_bytes (shape_by bits p).has_token token) + length (length_bytes (shape_by bits p).has_length field)) = simp length-append in
        omega (arith, l, number_len, length_shape field (shape_by bits p) (plain_number p) dst src token)

    -- with a Length, two bytes stand before the number
    room : (field : List ℕ) → (shape_by bits p).has_length ≡ true → length (written_header bits field p dst src token) ≡ length before + (length field + c.0)
    room field h = ap length (with_length field h) ∙ rw (length-append before (field ++ number_field (plain_number p)), length-append field (number_field (plain_number p)), number_len)

    -- the header that was written passes the steps' tests
    pub passes : (b : Bool) (len : ℕ) → (shape_by bits p).has_length ≡ b → is_cut c ≡ true → length (header_bytes bits p dst src token) ≤ len → len ≤ 65527
        → header_tests (length (header_bytes bits p dst src token)) (some c.0) b len ≡ true
    unfolding header_tests before
    passes true len h k le big =
        let w = cut_short c k in
        let r = room placeholder h in
        let two = length_bytes_be 2 0 in
        rw (le-leb len 65527 big, le-leb (length (header_bytes bits p dst src token)) len le, le-leb 1 c.0 w.0, le-leb c.0 4 w.1, le-leb (1 + c.0 + 2) (length (header_bytes bits p dst src token)) (omega (arith, r, two)))
    passes false len h k le big =
        let w = cut_short c k in
        rw (le-leb len 65527 big, le-leb (length (header_bytes bits p dst src token)) len le, le-leb 1 c.0 w.0, le-leb c.0 4 w.1, le-leb (1 + c.0) (length (header_bytes bits p dst src token)) (omega (arith, offset placeholder)))

    -- the Length step sets the Length, and nothing else
    pub sets : (b : Bool) (payload : List ℕ) → (shape_by bits p).has_length ≡ b → is_cut c ≡ true → length (header_bytes bits p dst src token) + length payload ≤ 65527
        → (b ≡ true → c.0 + length payload < 2 ^ 14)
        → length_set (length (header_bytes bits p dst src token)) (some c.0) b (header_bytes bits p dst src token ++ payload)
        ≡ ok (written_header bits (length_field (c.0 + length payload)) p dst src token ++ payload)
    sets true payload h k big few =
        let n : ℕ = c.0 + length payload in
        let hl : ℕ = length (header_bytes bits p dst src token) in
        let all : length (header_bytes bits p dst src token ++ payload) ≡ hl + length payload = length-append (header_bytes bits p dst src token) payload in
        let r = room placeholder h in
        let two : length placeholder ≡ 2 = length_bytes_be 2 0 in
        let t = passes true (length (header_bytes bits p dst src token ++ payload)) h k (omega (arith, all)) (omega (arith, all, big)) in
        let s : splice (header_bytes bits p dst src token ++ payload) (hl - c.0 - 2) (length_field n) ≡ written_header bits (length_field n) p dst src token ++ payload =
        rw (with_length placeholder h, with_length (length_field n) h, append_assoc before (placeholder ++ number_field (plain_number p)) payload, append_assoc placeholder (number_field (plain_number p)) payload, append_assoc before (length_field n ++ number_field (plain_number p)) payload, append_assoc (length_field n) (number_field (plain_number p)) payload)
        (splice_mid before placeholder (length_field n) (number_field (plain_number p) ++ payload) _ (omega (arith, r, two, ap length (with_length placeholder h))) (two ∙ sym (length_field_law n))) in
        set_on hl (some c.0) true (header_bytes bits p dst src token ++ payload) t c.0 refl refl
        ∙ into_ok hl c.0 (header_bytes bits p dst src token ++ payload) n (omega (arith, all)) (few refl)
        ∙ ap ok s
    sets false payload h k big few =
        let all : length (header_bytes bits p dst src token ++ payload) ≡ length (header_bytes bits p dst src token) + length payload = length-append (header_bytes bits p dst src token) payload in
        let t = passes false (length (header_bytes bits p dst src token ++ payload)) h k (omega (arith, all)) (omega (arith, all, big)) in
        set_none (length (header_bytes bits p dst src token)) (some c.0) false (header_bytes bits p dst src token ++ payload) t refl
        ∙ ap (λ (l : List ℕ). ok (l ++ payload)) (without placeholder (length_field (c.0 + length payload)) h)

-- ---- the mask leaves the bits that steer

four : (b m : ℕ) → bit_xor b (m % 16) / 16 ≡ b / 16
four b m = let z : m % 16 / 16 ≡ 0 = omega arith in xor_shr b (m % 16) 4 ∙ rw z (xor_zero_r (b / 16))

five : (b m : ℕ) → bit_xor b (m % 32) / 32 ≡ b / 32
five b m = let z : m % 32 / 32 ≡ 0 = omega arith in xor_shr b (m % 32) 5 ∙ rw z (xor_zero_r (b / 32))

pub masked_steers : (bits : ℕ → PacketType → ℕ) (p : Plain) (c : CutNumber) (m : ℕ) → plain_number p ≡ some c → Steers bits p (shape_by bits p).first
    → Steers bits p (bit_xor (shape_by bits p).first (first_mask (shape_by bits p).has_length m))
unfolding Steers
masked_steers bits (initial c v) d m is e = four (long_first (bits v type.initial) + length_bits c) m ∙ e
masked_steers bits (zero_rtt c v) d m is e = four (long_first (bits v type.zero_rtt) + length_bits c) m ∙ e
masked_steers bits (handshake c v) d m is e = four (long_first (bits v type.handshake) + length_bits c) m ∙ e
masked_steers bits (retry v) d m is e = let z : ◌≡◌ {A = ℕ} 0 1 = cc in absurd (omega arith)
masked_steers bits (short spin phase c) d m is e = five (short_first spin phase + length_bits c) m ∙ e
masked_steers bits (negotiate random) d m is e = let z : ◌≡◌ {A = ℕ} 0 1 = cc in absurd (omega arith)

-- ---- the first byte of a header with a number: its form, the number's length, and what finish says by it

pub record First (bits : ℕ → PacketType → ℕ) (p : Plain) (c : CutNumber) : Type 0 where
  pub form : (shape_by bits p).first / long_header_form ≡ form_bit (shape_by bits p).has_length
  pub len : tag_length (shape_by bits p).first ≡ c.0
  pub says : opened_by (shape_by bits p).has_length (shape_by bits p).first c ≡ opened_as p

bit_is : (b : Bool) (x : ℕ) → bit_if b x ≡ bit_if b 1 * x
bit_is true x = omega arith
bit_is false x = omega arith

bit_one : (b : Bool) → eqb (bit_if b 1) 1 ≡ b
bit_one true = refl
bit_one false = refl

-- two bits that are clear, as reserved bits are
two_clear : (n k : ℕ) → n / 2 ^ k % 4 ≡ 0 → bit_and n (2 ^ (2 + k) - 2 ^ k) ≡ 0
two_clear n k h = and_high n 2 k ∙ rw h (omega arith)

module _ (bits : ℕ → PacketType → ℕ) (c : CutNumber) (k : is_cut c ≡ true) where
  long_len : (v : ℕ) (t : PacketType) → tag_length (long_first (bits v t) + length_bits c) ≡ c.0
  long_len v t = omega (arith, cut_short c k)

  long_form : (two : (v : ℕ) (t : PacketType) → bits v t < 4) (v : ℕ) (t : PacketType) → (long_first (bits v t) + length_bits c) / long_header_form ≡ 1
  long_form two v t = omega (arith, cut_short c k, two v t)

  long_says : (v : ℕ) (t : PacketType) → opened_by true (long_first (bits v t) + length_bits c) c ≡ protect.long c.0 c.1 true
  unfolding opened_by
  long_says v t =
      let first : ℕ = long_header_form + fixed_bit + bits v t * 16 + length_bits c in
      let z : first / 4 % 4 ≡ 0 = omega (arith, cut_short c k) in
      rw (eq-eqb (bit_and first long_reserved_bits) 0 (two_clear first 2 z))

  short_first_law : (spin phase : Bool) → First bits (short spin phase c) c
  unfolding opened_by opened_as
  short_first_law spin phase =
      let s : bit_if spin spin_bit ≡ bit_if spin 1 * spin_bit = bit_is spin spin_bit in
      let f : bit_if phase key_phase_bit ≡ bit_if phase 1 * key_phase_bit = bit_is phase key_phase_bit in
      let first : ℕ = fixed_bit + bit_if spin spin_bit + bit_if phase key_phase_bit + length_bits c in
      let l : tag_length first ≡ c.0 = omega (arith, cut_short c k, s, f) in
      let e₈ : first / 8 ≡ 8 + bit_if spin 1 * 4 = omega (arith, cut_short c k, s, f, bit_small phase) in
      let e₄ : first / 4 ≡ 16 + bit_if spin 1 * 8 + bit_if phase 1 = omega (arith, cut_short c k, s, f) in
      let z : first / 8 % 4 ≡ 0 = rw e₈ (omega arith) in
      let q : first / 4 % 2 ≡ bit_if phase 1 = rw e₄ (omega (arith, bit_small phase)) in
      record {
        form = omega (arith, cut_short c k, s, f, bit_small spin, bit_small phase);
        len = l;
        says = rw (eq-eqb (bit_and first short_reserved_bits) 0 (two_clear first 3 z), q, bit_one phase);
      }

pub first_written : (bits : ℕ → PacketType → ℕ) → ((v : ℕ) (t : PacketType) → bits v t < 4) → (p : Plain) (c : CutNumber) → plain_number p ≡ some c → is_cut c ≡ true → First bits p c
unfolding opened_as
first_written bits two (initial c v) d is k =
    let e : c ≡ d = cc in
    rw e (record { form = long_form bits d k two v type.initial; len = long_len bits d k v type.initial; says = long_says bits d k v type.initial })
first_written bits two (zero_rtt c v) d is k =
    let e : c ≡ d = cc in
    rw e (record { form = long_form bits d k two v type.zero_rtt; len = long_len bits d k v type.zero_rtt; says = long_says bits d k v type.zero_rtt })
first_written bits two (handshake c v) d is k =
    let e : c ≡ d = cc in
    rw e (record { form = long_form bits d k two v type.handshake; len = long_len bits d k v type.handshake; says = long_says bits d k v type.handshake })
first_written bits two (retry v) d is k = let z : ◌≡◌ {A = ℕ} 0 1 = cc in absurd (omega arith)
first_written bits two (short spin phase c) d is k = let e : c ≡ d = cc in rw e (short_first_law bits d k spin phase)
first_written bits two (negotiate random) d is k = let z : ◌≡◌ {A = ℕ} 0 1 = cc in absurd (omega arith)

-- ---- the packet with its mask: its first byte, what stands up to its number, and the rest

pub masked_shape : (long : Bool) (mask : List ℕ) (at j b : ℕ) (u past : List ℕ) → at ≡ 1 + length u
    → masked long mask at j (b ∷ (u ++ past)) ≡ bit_xor b (first_mask long (byte_at mask 0)) ∷ (u ++ xor (number_mask j mask) past)
unfolding masked xor_at xor
masked_shape long mask at j b u past e =
    let x : ℕ = bit_xor b (first_mask long (byte_at mask 0)) in
    let t : take at ((x ∷ u) ++ past) ≡ x ∷ u = take_at (x ∷ u) past at (omega (arith, e)) in
    let d : drop at ((x ∷ u) ++ past) ≡ past = drop_at (x ∷ u) past at (omega (arith, e)) in
    rw (t, d)
