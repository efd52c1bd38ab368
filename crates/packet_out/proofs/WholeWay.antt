-- The whole way: encode, the Length step, encryption of the payload, the mask step, split and finish; over any pair of tables of types
-- and their inverses, by the version.
use Rattle.std.specs.Prelude.{if◌then◌else◌}
use Prim.Native.Nat.{ℕ, ◌+◌, ◌-◌, ◌/◌, ◌^◌, ◌≤◌, ◌<◌}
use mathlib.Core.Path.{◌≡◌, refl, sym, ap, ◌∙◌}
use mathlib.Core.List.{List, [], ◌∷◌, ◌++◌, append-nil}
use mathlib.Core.Bool.{Bool, true, false}
use mathlib.Core.Option.{none, some}
use native.Mathlib.Nat.{mod-eq_of_lt}
use native.Mathlib.Omega.{arith}
use lib.Bits.{bit_xor}
use lib.ListN.{length, drop, length-append}
use lib.Seq.{drop_at}
use borrow.Author.Tests.{le-ltb, le-leb}
use Rattle.coding.specs.Words.{and_then, ok}
use Rattle.coding.specs.Bytes.{byte_at}
use Rattle.coding.specs.Places.{part_of}
use Rattle.coding.specs.declared.Place.{Place}
use Rattle.coding.proofs.Laws.{length_bytes_be, take_some}
use Rattle.coding.proofs.Back.{part_back}
use Rattle.shared.specs.FirstByte.{long_header_form}
use Rattle.shared.specs.declared.cid.ConnectionId.{ConnectionId}
use Rattle.shared.specs.declared.kinds.CutNumber.{CutNumber}
use Rattle.number.specs.Cutting.{is_cut, tag_length}
use Rattle.number.proofs.Cuts.{first_back}
use Rattle.packet.specs.Header as read
use Rattle.packet.specs.Header.{Outcome, outside, header_by, headed, length_in}
use Rattle.packet.specs.Split.{split_with, split_on, split_by, cut_at}
use Rattle.packet.specs.TypeBits.{PacketType, type_of, bits_of}
use Rattle.protect.specs.Protection.{xor, number_mask, first_mask, applied}
use Rattle.protect.specs.Tests.{in_size, header_tests}
use Rattle.protect.specs.Steps.{opened, finish_at, finished, mask_at, read_off, payload_place}
use Rattle.protect.proofs.Back.{ThereAndBack, there_and_back, number_back, length_applied}
use Rattle.protect.proofs.Cases.{mask_ok, mask_none}
use Rattle.packet_out.specs.Encoding.{Plain, initial, zero_rtt, handshake, retry, short, negotiate, plain_number, shape_by, length_bytes, number_field, written_header, header_bytes, header_out, placeholder}
use Rattle.packet_out.specs.Length.{length_field, length_set}
use Rattle.packet_out.specs.Back.{read_as, kind_read, token_place, end_read, Readable, Typed, opened_as}
use Rattle.packet_out.proofs.Laws.{length_shape, set_none}
use Rattle.packet_out.proofs.HeaderBack.{up_to, header_back_law}
use Rattle.packet.proofs.Types.{Tables, tables}
use Rattle.packet_out.proofs.EncodedBack.{reads_length, first_steers, header_then, WasWritten, was_written, encode_back, token_back}
use Rattle.packet_out.proofs.LengthAndMask.{length_field_law, sets, number_len, offset, passes, up_to_number, numbered, length_header, masked_steers, first_written, masked_shape}

-- ---- split

inside : (s : List ℕ) (local : ℕ) (versions : List ℕ) → length s ≤ 65527 → local ≤ 20 → length versions ≤ 16 → outside s local versions ≡ false
unfolding outside
inside s local versions a b c = rw (le-ltb 65527 (length s) a, le-ltb 20 local b, le-ltb 16 (length versions) c)

length_read : (bits : ℕ → PacketType → ℕ) (p : Plain) (token : Place) (n : ℕ) → length_in (ok (kind_read p token n)) ≡ (if (shape_by bits p).has_length then some n else none)
unfolding kind_read
length_read bits (initial c v) token n = refl
length_read bits (zero_rtt c v) token n = refl
length_read bits (handshake c v) token n = refl
length_read bits (retry v) token n = refl
length_read bits (short spin phase c) token n = refl
length_read bits (negotiate random) token n = refl

-- a packet whose Length counts all that follows its header, or that has none, is the whole datagram
pub split_whole : (types : ℕ → ℕ → PacketType) (bits : ℕ → PacketType → ℕ) (p : Plain) (dst src : ConnectionId) (token s : List ℕ) (n m local : ℕ) (versions : List ℕ) (grease : Bool)
    → header_by types s local versions grease ≡ read_as bits p dst src token n m → ((shape_by bits p).has_length ≡ true → end_read bits p dst src token m + n ≡ length s)
    → split_with types s local versions grease ≡ cut_at (read_as bits p dst src token n m) s (length s)
unfolding split_with split_on split_by read_as headed and_then
split_whole types bits p dst src token s n m local versions grease e f =
    rw (e, length_read bits p (token_place bits p dst src token) n) (go (shape_by bits p).has_length refl)
  where
    h : Outcome
    h = read_as bits p dst src token n m

    go : (b : Bool) → (shape_by bits p).has_length ≡ b → split_by (if b then some n else none) s h ≡ cut_at h s (length s)
    go true q =
        let l : end_read bits p dst src token m + n ≡ length s = f q in
        rw (← take_some n s (end_read bits p dst src token m) (omega (arith, l)), l)
    go false q = refl

-- ---- the whole way

length_if : (b : Bool) (n : ℕ) → length (length_bytes b (length_field n)) ≡ (if b then 2 else 0)
unfolding length_bytes
length_if true n = length_field_law n
length_if false n = refl

-- a header of p with the number c was written as bs. With a payload behind it the Length is set; the payload is encrypted where it
-- stands, and the mask laid on. Of what is sent split and finish give the header, the number and the payload back
pub record Arrives (types : ℕ → ℕ → PacketType) (bits : ℕ → PacketType → ℕ) (p : Plain) (c : CutNumber) (dst src : ConnectionId) (token bs payload sealed mask : List ℕ) (local : ℕ) (versions : List ℕ) (grease : Bool) : Type 0 where
  pub header : List ℕ
  pub sent : List ℕ
  pub sets : length_set (length bs) (some c.0) (shape_by bits p).has_length (bs ++ payload) ≡ ok (header ++ payload)
  pub masks : mask_at (length bs) (some c.0) (shape_by bits p).has_length (header ++ sealed) mask ≡ ok sent
  pub splits : split_with types sent local versions grease ≡ cut_at (read_as bits p dst src token (c.0 + length payload) 2) sent (length sent)
  pub named : (shape_by bits p).has_token ≡ true → part_of sent (token_place bits p dst src token) ≡ token
  pub finishes : finish_at true (shape_by bits p).has_length sent (end_read bits p dst src token 2) mask ≡ ok (header ++ sealed)
  pub says : read_off (finished true (shape_by bits p).has_length (end_read bits p dst src token 2)) (finish_at true (shape_by bits p).has_length sent (end_read bits p dst src token 2) mask) ≡ ok (opened_as p)
  pub carried : part_of (header ++ sealed) (payload_place (end_read bits p dst src token 2) (some c.0) (length (header ++ sealed))) ≡ sealed

module _ (types : ℕ → ℕ → PacketType) (bits : ℕ → PacketType → ℕ) (pair : Tables types bits) (p : Plain) (c : CutNumber) (is : plain_number p ≡ some c) (dst src : ConnectionId) (token payload sealed mask : List ℕ) (local : ℕ) (versions : List ℕ) (grease : Bool)
    (w : WasWritten bits p dst src token (header_bytes bits p dst src token)) (y : Typed p dst src) (d : Readable p dst local versions grease) (short-cid : local ≤ 20) (few : length versions ≤ 16)
    (big : length (header_bytes bits p dst src token) + length payload ≤ 65527) (fits : (shape_by bits p).has_length ≡ true → c.0 + length payload < 2 ^ 14)
    (same : length sealed ≡ length payload) (reach : 20 ≤ c.0 + length payload) where
  cut : is_cut c ≡ true
  cut = rw is at w.kept.cut

  abbrev n : ℕ
  n = c.0 + length payload

  abbrev field : List ℕ
  field = length_field n

  abbrev written : List ℕ
  written = written_header bits field p dst src token

  abbrev long : Bool
  long = (shape_by bits p).has_length

  abbrev at : ℕ
  at = end_read bits p dst src token 2

  -- the number stands where reading ends
  at_is : length (header_bytes bits p dst src token) ≡ at + c.0
  unfolding end_read written_header
  at_is =
      let e = length_header bits p dst src token placeholder (length_field n) (length_bytes_be 2 0 ∙ sym (length_field_law n)) in
      omega (arith, e, length_shape (length_field n) (shape_by bits p) (plain_number p) dst src token, number_len bits p dst src token c is, length_if (shape_by bits p).has_length n)

  same_length : length written ≡ length (header_bytes bits p dst src token)
  same_length = length_header bits p dst src token field placeholder (length_field_law n ∙ sym (length_bytes_be 2 0))

  -- the packet: its first byte, what stands up to the number, the number, the payload
  packet_is : written ++ sealed ≡ (shape_by bits p).first ∷ (up_to_number bits p dst src token field ++ (number_field (plain_number p) ++ sealed))
  packet_is = header_then bits field p dst src token sealed ∙ ap (λ (l : List ℕ). (shape_by bits p).first ∷ l) (numbered bits p dst src token field (number_field (plain_number p) ++ sealed))

  packet_long : length (written ++ sealed) ≡ at + n
  packet_long = length-append written sealed ∙ omega (arith, same_length, at_is, same)

  number_at : at ≡ 1 + length (up_to_number bits p dst src token field)
  number_at = omega (arith, same_length, at_is, offset bits p dst src token c is field)

  -- what is sent
  hidden : ℕ
  hidden = bit_xor (shape_by bits p).first (first_mask long (byte_at mask 0))

  past : List ℕ
  past = xor (number_mask (tag_length (shape_by bits p).first) mask) (number_field (plain_number p) ++ sealed)

  sent_is : applied long mask at (written ++ sealed) ≡ hidden ∷ up_to bits p dst src token field past
  unfolding applied hidden past
  sent_is =
      rw (packet_is, numbered bits p dst src token field past)
      (masked_shape long mask at (tag_length (shape_by bits p).first) (shape_by bits p).first (up_to_number bits p dst src token field) (number_field (plain_number p) ++ sealed) number_at)

  byte_zero : byte_at (written ++ sealed) 0 ≡ (shape_by bits p).first
  byte_zero = rw packet_is

  tests : header_tests (length (header_bytes bits p dst src token)) (some c.0) long (length (written ++ sealed)) ≡ true
  tests = passes bits p dst src token c is long (length (written ++ sealed)) refl cut (omega (arith, packet_long, at_is)) (omega (arith, packet_long, at_is, big))

  offset_is : length (header_bytes bits p dst src token) - c.0 ≡ at
  offset_is = omega (arith, at_is)

  back : ThereAndBack (length (header_bytes bits p dst src token)) c.0 long (written ++ sealed) mask
  back =
      there_and_back (length (header_bytes bits p dst src token)) c.0 long (written ++ sealed) mask tests (omega (arith, packet_long, at_is, reach))
      (ap (λ (x : ℕ). x / long_header_form) byte_zero ∙ (first_written bits (λ v. (pair v).two) p c is cut).form)

  sent_same : back.sent ≡ applied long mask at (written ++ sealed)
  sent_same =
      let m = mask_ok (length (header_bytes bits p dst src token)) c.0 long (written ++ sealed) mask tests (le-leb (length (header_bytes bits p dst src token) - c.0 + 4 + 16) (length (written ++ sealed)) (omega (arith, packet_long, at_is, reach))) (ap (λ (x : ℕ). x / long_header_form) byte_zero ∙ (first_written bits (λ v. (pair v).two) p c is cut).form) in
      let e : ok back.sent ≡ ok (applied long mask (length (header_bytes bits p dst src token) - c.0) (written ++ sealed)) = sym back.masks ∙ m in
      let f : back.sent ≡ applied long mask (length (header_bytes bits p dst src token) - c.0) (written ++ sealed) = cc in
      f ∙ rw offset_is

  sent_shape : back.sent ≡ hidden ∷ up_to bits p dst src token field past
  sent_shape = sent_same ∙ sent_is

  sent_long : length back.sent ≡ length (written ++ sealed)
  sent_long = ap length sent_same ∙ length_applied long mask at (written ++ sealed) (omega (arith, number_at)) (omega (arith, packet_long, reach))

  header_read : header_by types back.sent local versions grease ≡ read_as bits p dst src token n 2
  unfolding hidden
  header_read =
      let o : outside back.sent local versions ≡ false = inside back.sent local versions (omega (arith, sent_long, packet_long, at_is, big)) short-cid few in
      rw sent_shape
      (header_back_law types bits pair dst src token field n 2 past local versions grease p hidden
      (masked_steers bits p c (byte_at mask 0) is (first_steers bits p w.kept.cut)) (λ h. reads_length n (fits h)) w.few w.kept y d (rw sent_shape at o))

  number_read : opened long at (written ++ sealed) ≡ opened_as p
  unfolding number_field
  number_read =
      let f = first_written bits (λ v. (pair v).two) p c is cut in
      let d : drop at (written ++ sealed) ≡ number_field (some c) ++ sealed =
      rw (packet_is, is) (drop_at ((shape_by bits p).first ∷ up_to_number bits p dst src token field) (number_field (some c) ++ sealed) at (omega (arith, number_at))) in
      number_back long at c.0 (written ++ sealed) (rw byte_zero f.len) ∙ rw (byte_zero, d, first_back c sealed cut) f.says

  payload_read : part_of (written ++ sealed) (payload_place at (some c.0) (length (written ++ sealed))) ≡ sealed
  payload_read =
      let s : at + c.0 ≡ length written = omega (arith, at_is, same_length) in
      let l : length (written ++ sealed) - length written ≡ length sealed = omega (arith, length-append written sealed) in
      let e : written ++ (sealed ++ []) ≡ written ++ sealed = ap (λ (x : List ℕ). written ++ x) (append-nil sealed) in
      rw (s, l) (rw e at (part_back written sealed []))

  pub arrives : Arrives types bits p c dst src token (header_bytes bits p dst src token) payload sealed mask local versions grease
  arrives =
      record {
        header = written;
        sent = back.sent;
        sets = sets bits p dst src token c is long payload refl cut big fits;
        masks = back.masks;
        splits = split_whole types bits p dst src token back.sent n 2 local versions grease header_read (λ h. omega (arith, sent_long, packet_long));
        named = λ h. rw sent_shape (token_back bits p dst src hidden token field past h);
        finishes = rw offset_is at back.finishes;
        says = (rw offset_is at back.says) ∙ ap ok number_read;
        carried = payload_read;
      }

-- and so of any header that encode writes
abbrev pub WholeWay : (ℕ → ℕ → PacketType) → (ℕ → PacketType → ℕ) → Type 0
WholeWay types bits =
    (p : Plain) (c : CutNumber) → plain_number p ≡ some c → (dst src : ConnectionId) (token bs payload sealed mask : List ℕ) (local : ℕ) (versions : List ℕ) (grease : Bool)
    → header_out bits p dst src token ≡ ok bs → Typed p dst src → Readable p dst local versions grease → local ≤ 20 → length versions ≤ 16
    → length bs + length payload ≤ 65527 → ((shape_by bits p).has_length ≡ true → c.0 + length payload < 2 ^ 14)
    → length sealed ≡ length payload → 20 ≤ c.0 + length payload
    → Arrives types bits p c dst src token bs payload sealed mask local versions grease

pub whole_way : (types : ℕ → ℕ → PacketType) (bits : ℕ → PacketType → ℕ) → Tables types bits → WholeWay types bits
whole_way types bits pair p c is dst src token bs payload sealed mask local versions grease e y d a b big fits same reach =
    let w = was_written bits p dst src token bs e in
    rw w.is (arrives types bits pair p c is dst src token payload sealed mask local versions grease (rw w.is at w) y d a b (rw w.is at big) fits same reach)

-- by the version, as encode writes and split reads
pub whole_way_by_version : WholeWay type_of bits_of
whole_way_by_version = whole_way type_of bits_of tables

-- ---- a header with no number: the steps change nothing, and it is read as it was written

pub record Stays (types : ℕ → ℕ → PacketType) (bits : ℕ → PacketType → ℕ) (p : Plain) (dst src : ConnectionId) (token bs rest mask : List ℕ) (local : ℕ) (versions : List ℕ) (grease : Bool) : Type 0 where
  pub sets : length_set (length bs) none (shape_by bits p).has_length (bs ++ rest) ≡ ok (bs ++ rest)
  pub masks : mask_at (length bs) none (shape_by bits p).has_length (bs ++ rest) mask ≡ ok (bs ++ rest)
  pub splits : split_with types (bs ++ rest) local versions grease ≡ cut_at (read_as bits p dst src token 0 1) (bs ++ rest) (length (bs ++ rest))
  pub finishes : (long : Bool) → finish_at false long (bs ++ rest) (end_read bits p dst src token 1) mask ≡ ok (bs ++ rest)

no_length : (bits : ℕ → PacketType → ℕ) (p : Plain) → plain_number p ≡ none → (shape_by bits p).has_length ≡ false
no_length bits (initial c v) e = let z : ◌≡◌ {A = ℕ} 0 1 = cc in absurd (omega arith)
no_length bits (zero_rtt c v) e = let z : ◌≡◌ {A = ℕ} 0 1 = cc in absurd (omega arith)
no_length bits (handshake c v) e = let z : ◌≡◌ {A = ℕ} 0 1 = cc in absurd (omega arith)
no_length bits (retry v) e = refl
no_length bits (short spin phase c) e = let z : ◌≡◌ {A = ℕ} 0 1 = cc in absurd (omega arith)
no_length bits (negotiate random) e = refl

abbrev pub BareWay : (ℕ → ℕ → PacketType) → (ℕ → PacketType → ℕ) → Type 0
BareWay types bits =
    (p : Plain) → plain_number p ≡ none → (dst src : ConnectionId) (token bs rest mask : List ℕ) (local : ℕ) (versions : List ℕ) (grease : Bool)
    → header_out bits p dst src token ≡ ok bs → Typed p dst src → Readable p dst local versions grease → local ≤ 20 → length versions ≤ 16
    → length bs + length rest ≤ 65527 → Stays types bits p dst src token bs rest mask local versions grease

pub bare_way : (types : ℕ → ℕ → PacketType) (bits : ℕ → PacketType → ℕ) → Tables types bits → BareWay types bits
unfolding header_tests finish_at in_size written_header
bare_way types bits pair p is dst src token bs rest mask local versions grease e y d a b big =
    let w = was_written bits p dst src token bs e in
    let n = no_length bits p is in
    let all : length (bs ++ rest) ≡ length bs + length rest = length-append bs rest in
    let one : 1 ≤ length bs = rw w.is (omega (arith, length_shape placeholder (shape_by bits p) (plain_number p) dst src token)) in
    let t : header_tests (length bs) none false (length (bs ++ rest)) ≡ true =
    rw (le-leb (length (bs ++ rest)) 65527 (omega (arith, all, big)), le-leb (length bs) (length (bs ++ rest)) (omega (arith, all)), le-leb 1 (length bs) one) in
    let o : outside (bs ++ rest) local versions ≡ false = inside (bs ++ rest) local versions (omega (arith, all, big)) a b in
    let h = encode_back types bits pair p dst src token bs rest local versions grease e y d o in
    record {
      sets = rw n (set_none (length bs) none false (bs ++ rest) t refl);
      masks = rw n (mask_none (length bs) none false (bs ++ rest) mask t refl);
      splits = split_whole types bits p dst src token (bs ++ rest) 0 1 local versions grease h (λ q. let z : ◌≡◌ {A = ℕ} 0 1 = cc in absurd (omega arith));
      finishes = λ long. rw (le-ltb 65527 (length (bs ++ rest)) (omega (arith, all, big)));
    }

pub bare_way_by_version : BareWay type_of bits_of
bare_way_by_version = bare_way type_of bits_of tables

-- Version Negotiation gives its bits back, where they are below the form bit
pub random_back : (random : ℕ) (token : Place) (len : ℕ) → random < long_header_form → kind_read (negotiate random) token len ≡ read.negotiate random
unfolding kind_read
random_back random token len h = ap read.negotiate (mod-eq_of_lt h)
