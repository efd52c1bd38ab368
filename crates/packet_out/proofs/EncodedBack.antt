-- What encode writes is read back: before the Length step, with its two bytes of 0 read as a Length of 0 in one byte, and after it;
-- over any pair of tables of types and their inverses, by the version.
use Rattle.std.specs.Prelude.{if◌then◌else◌}
use Prim.Native.Nat.{ℕ, ◌+◌, ◌*◌, ◌/◌, ◌%◌, ◌^◌, ◌≤◌, ◌<◌}
use mathlib.Core.Path.{◌≡◌, refl, sym, ap, ◌∙◌}
use mathlib.Core.List.{List, ◌∷◌, ◌++◌, append_assoc}
use mathlib.Core.Bool.{Bool, true, false}
use mathlib.Core.Option.{some}
use native.Mathlib.Omega.{arith}
use lib.ListN.{length, drop, get_or, length-append}
use lib.Seq.{get_or-append_seam, drop-append-add}
use borrow.Author.Tests.{lt-ltb, le-leb}
use Rattle.coding.specs.Words.{got, Answer, no, ok}
use Rattle.coding.specs.Bytes.{be, bytes_be}
use Rattle.coding.specs.Places.{part_of}
use Rattle.coding.specs.Varint.{var_len, var_at, var_tag, var_size, var_bytes}
use Rattle.coding.proofs.Laws.{length_var}
use Rattle.coding.proofs.Back.{part_back, var_back}
use Rattle.shared.specs.FirstByte.{fixed_bit, spin_bit, key_phase_bit}
use Rattle.shared.specs.declared.cid.ConnectionId.{ConnectionId}
use Rattle.shared.specs.declared.kinds.CutNumber.{CutNumber}
use Rattle.number.specs.Cutting.{length_bits}
use Rattle.packet.specs.Header.{outside, header_by}
use Rattle.packet.specs.TypeBits.{PacketType, type_of, bits_of}
use Rattle.packet.specs.TypeBits as type
use Rattle.packet.proofs.Types.{Tables, tables}
use Rattle.packet_out.specs.Encoding.{Plain, initial, zero_rtt, handshake, retry, short, negotiate, plain_number, bit_if, long_first, shape_by, shape_bytes, names_bytes, token_bytes, length_bytes, number_field, written_header, header_bytes, header_out, in_header, keep_rules, number_keeps, placeholder}
use Rattle.packet_out.specs.Length.{length_field}
use Rattle.packet_out.specs.Back.{read_as, token_place, Readable, Typed}
use Rattle.packet_out.proofs.Laws.{Kept, kept, cut_short, length_shape, length_token, fits_seen}
use Rattle.packet_out.proofs.Fields.{ReadsAs}
use Rattle.packet_out.proofs.HeaderBack.{Steers, up_to, header_back_law}

-- ---- the Length's two bytes

pub reads_placeholder : ReadsAs placeholder 0 1
unfolding bytes_be var_bytes var_size var_tag
reads_placeholder p q = var_back p (0 ∷ q) 0 (omega arith)

-- two bytes whose first has 01 on top
two_bytes : (p q : List ℕ) (x y n : ℕ) → x / 64 ≡ 1 → x % 64 * 256 + y ≡ n → var_at (p ++ (x ∷ (y ∷ q))) (length p) ≡ got n (length p + 2)
unfolding var_at var_len be
two_bytes p q x y n e v =
    let s : List ℕ = p ++ (x ∷ (y ∷ q)) in
    let first : get_or s (length p) 0 ≡ x = get_or-append_seam p x (y ∷ q) 0 in
    let rest : drop (length p + 1) s ≡ y ∷ q = drop-append-add p (x ∷ (y ∷ q)) 1 in
    let all : length s ≡ length p + (1 + (1 + length q)) = simp length-append (omega arith) in
    rw (lt-ltb (length p) (length s) (omega (arith, all)), first, e, le-leb (length p + 2) (length s) (omega (arith, all)), rest) (ap (λ (z : ℕ). got z (length p + 2)) v)

pub reads_length : (n : ℕ) → n < 2 ^ 14 → ReadsAs (length_field n) n 2
unfolding length_field bytes_be
reads_length n h p q = two_bytes p q ((2 ^ 14 + n) / 256 ^ 1 % 256) ((2 ^ 14 + n) / 256 ^ 0 % 256) n (omega (arith, h)) (omega (arith, h))

-- ---- the first byte that is written steers

pub low_small : (c : CutNumber) → number_keeps (some c) ≡ true → length_bits c < 4
low_small c e = omega (arith, cut_short c e)

short_steers : (spin phase : Bool) (low : ℕ) → low < 4 → (fixed_bit + bit_if spin spin_bit + bit_if phase key_phase_bit + low) / 32 ≡ 2 + bit_if spin 1
short_steers true true low h = omega (arith, h)
short_steers true false low h = omega (arith, h)
short_steers false true low h = omega (arith, h)
short_steers false false low h = omega (arith, h)

-- over any bits of types
module _ (bits : ℕ → PacketType → ℕ) where
  long_steers : (v : ℕ) (t : PacketType) (low : ℕ) → low < 16 → (long_first (bits v t) + low) / 16 ≡ 12 + bits v t
  long_steers v t low h = omega (arith, h)

  pub first_steers : (p : Plain) → number_keeps (plain_number p) ≡ true → Steers bits p (shape_by bits p).first
  unfolding Steers
  first_steers (initial c v) k = long_steers v type.initial (length_bits c) (omega (arith, low_small c k))
  first_steers (zero_rtt c v) k = long_steers v type.zero_rtt (length_bits c) (omega (arith, low_small c k))
  first_steers (handshake c v) k = long_steers v type.handshake (length_bits c) (omega (arith, low_small c k))
  first_steers (retry v) k = let e : long_first (bits v type.retry) ≡ long_first (bits v type.retry) + 0 = omega arith in rw e (long_steers v type.retry 0 (omega arith))
  first_steers (short spin phase c) k = short_steers spin phase (length_bits c) (low_small c k)
  first_steers (negotiate random) k = refl

-- ---- what encode writes

-- a header, and what follows it
pub header_then : (bits : ℕ → PacketType → ℕ) (field : List ℕ) (p : Plain) (dst src : ConnectionId) (token rest : List ℕ)
    → written_header bits field p dst src token ++ rest ≡ (shape_by bits p).first ∷ up_to bits p dst src token field (number_field (plain_number p) ++ rest)
unfolding written_header shape_bytes up_to
header_then bits field p dst src token rest = ap (λ (l : List ℕ). (shape_by bits p).first ∷ l) (simp append_assoc)

-- what is known of a header that was written
pub record WasWritten (bits : ℕ → PacketType → ℕ) (p : Plain) (dst src : ConnectionId) (token bs : List ℕ) : Type 0 where
  pub kept : Kept (plain_number p) dst src
  pub short : length bs ≤ 65527
  pub is : bs ≡ header_bytes bits p dst src token
  pub few : (shape_by bits p).has_token ≡ true → length token < 2 ^ 62

pub was_written : (bits : ℕ → PacketType → ℕ) (p : Plain) (dst src : ConnectionId) (token bs : List ℕ) → header_out bits p dst src token ≡ ok bs → WasWritten bits p dst src token bs
unfolding header_out written_header
was_written bits p dst src token bs = go (keep_rules (plain_number p) dst src) refl
  where
    all : List ℕ
    all = header_bytes bits p dst src token

    few : length all ≤ 65527 → (shape_by bits p).has_token ≡ true → length token < 2 ^ 62
    few l h =
        let t : length (token_bytes (shape_by bits p).has_token token) ≡ var_size (length token) + length token = rw h (length_token token) in
        omega (arith, l, t, length_shape placeholder (shape_by bits p) (plain_number p) dst src token)

    go : (b : Bool) → keep_rules (plain_number p) dst src ≡ b → ◌≡◌ {A = Answer (List ℕ)} (if b then in_header all all else no 14) (ok bs) → WasWritten bits p dst src token bs
    go true k h =
        let f = fits_seen all all bs (sym h) in
        record { kept = kept (plain_number p) dst src k; short = rw (← f.1) f.0; is = sym f.1; few = few f.0 }
    go false k h = let z : ◌≡◌ {A = ℕ} 0 1 = cc in absurd (omega arith)

-- 01: what encode writes, decode reads back, whatever follows it
abbrev pub EncodeBack : (ℕ → ℕ → PacketType) → (ℕ → PacketType → ℕ) → Type 0
EncodeBack types bits =
    (p : Plain) (dst src : ConnectionId) (token bs rest : List ℕ) (local : ℕ) (versions : List ℕ) (grease : Bool)
    → header_out bits p dst src token ≡ ok bs → Typed p dst src → Readable p dst local versions grease → outside (bs ++ rest) local versions ≡ false
    → header_by types (bs ++ rest) local versions grease ≡ read_as bits p dst src token 0 1

pub encode_back : (types : ℕ → ℕ → PacketType) (bits : ℕ → PacketType → ℕ) → Tables types bits → EncodeBack types bits
encode_back types bits pair p dst src token bs rest local versions grease e y d o =
    let w = was_written bits p dst src token bs e in
    let s : bs ++ rest ≡ (shape_by bits p).first ∷ up_to bits p dst src token placeholder (number_field (plain_number p) ++ rest) =
    ap (λ (l : List ℕ). l ++ rest) w.is ∙ header_then bits placeholder p dst src token rest in
    rw s
    (header_back_law types bits pair dst src token placeholder 0 1 (number_field (plain_number p) ++ rest) local versions grease p
    (shape_by bits p).first (first_steers bits p w.kept.cut) (λ h. reads_placeholder) w.few w.kept y d (rw s at o))

-- by the version, as encode writes and decode reads
pub encode_back_by_version : EncodeBack type_of bits_of
encode_back_by_version = encode_back type_of bits_of tables

-- and the token stands in its place
pub token_back : (bits : ℕ → PacketType → ℕ) (p : Plain) (dst src : ConnectionId) (b : ℕ) (token field past : List ℕ) → (shape_by bits p).has_token ≡ true
    → part_of (b ∷ up_to bits p dst src token field past) (token_place bits p dst src token) ≡ token
unfolding up_to token_place token_bytes
token_back bits p dst src b token field past h =
    let w : List ℕ = (b ∷ names_bytes (shape_by bits p).version dst src) ++ var_bytes (length token) in
    let l : 1 + length (names_bytes (shape_by bits p).version dst src) + var_size (length token) ≡ length w = simp (length-append, length_var) (omega arith) in
    let q : List ℕ = length_bytes (shape_by bits p).has_length field ++ past in
    let s : b ∷ (names_bytes (shape_by bits p).version dst src ++ ((var_bytes (length token) ++ token) ++ q)) ≡ w ++ (token ++ q) = simp append_assoc in
    rw (h, l, s) (part_back w token q)
