-- The sample's place, finish and the mask step: document 01, "From datagram to packets".
use Rattle.std.specs.Prelude.{ℕ, ◌+◌, ◌-◌, ◌/◌, ◌%◌, ◌≡◌, List, Bool, length, drop, eqb, if◌then◌else◌}
use Rattle.std.proofs.Math.Option.{Option, none, some}
use Rattle.std.specs.Int.Bits.{bit_and}
use Rattle.std.specs.Borrow.{Bor}
use Rattle.coding.specs.Words.{Answer, no, ok}
use Rattle.coding.specs.Bytes.{byte_at}
use Rattle.coding.specs.Places.{Part, start_of, part_of}
use Rattle.coding.specs.declared.Place.{Place}
use Rattle.shared.specs.FirstByte.{long_header_form, long_reserved_bits, short_reserved_bits, key_phase_bit}
use Rattle.shared.specs.declared.kinds.CutNumber.{CutNumber}
use Rattle.number.specs.Cutting.{tag_length, first_cut}
use Rattle.protect.specs.Protection.{applied, removed}
use Rattle.protect.specs.Tests.{in_size, has_sample, form_bit, number_bytes, header_tests}

-- ---- a call that changes a lent packet: w is the packet afterwards, or a refusal

-- it answers what is read off the packet afterwards, or the refusal
unfoldable pub read_off : {A : Type 0} → (List ℕ → A) → Answer (List ℕ) → Answer A
read_off read (no k) = no k
read_off read (ok new) = ok (read new)

-- after a refusal every byte is as it was
unfoldable pub left_by : Answer (List ℕ) → List ℕ → List ℕ
left_by (no k) old = old
left_by (ok new) old = new

pub record Changed {A : Type 0} (read : List ℕ → A) (w : Answer (List ℕ)) (old : List ℕ) (said : Answer A) (new : List ℕ) : Type 0 where
  pub says : said ≡ read_off read w
  pub leaves : new ≡ left_by w old

-- ---- the sample (RFC 9001, 5.4.2): 16 bytes, four past the number offset; none where there is no number

unfoldable pub sample_at : Bool → List ℕ → ℕ → Answer (Option Place)
sample_at numbered packet at =
    in_size packet
    (if numbered then
    (if eqb at 0 then no 14 else
    if has_sample (length packet) at then ok (some (record { start = at + 4; len = 16 })) else no 8)
    else ok none)

-- ---- finish

-- what is answered: the number's length and value, whether the reserved bits are clear, and a short packet's key phase
pub data Opened : Type 0 where
  unnumbered : Opened
  long : ℕ → ℕ → Bool → Opened
  short : ℕ → ℕ → Bool → Bool → Opened

-- by the first byte without its mask, and the number
unfoldable pub opened_by : Bool → ℕ → CutNumber → Opened
opened_by is_long first number =
    if is_long then long number.0 number.1 (eqb (bit_and first long_reserved_bits) 0)
    else short number.0 number.1 (eqb (bit_and first short_reserved_bits) 0) (eqb (first / key_phase_bit % 2) 1)

-- in the packet without its mask
unfoldable pub opened : Bool → ℕ → List ℕ → Opened
opened is_long at packet = opened_by is_long (byte_at packet 0) (first_cut (tag_length (byte_at packet 0)) (drop at packet))

-- a packet with a number, its mask removed
unfoldable pub open_at : Bool → List ℕ → ℕ → List ℕ → Answer (List ℕ)
open_at is_long packet at mask =
    if eqb at 0 then no 14 else
    if has_sample (length packet) at then
    (if eqb (byte_at packet 0 / long_header_form) (form_bit is_long) then ok (removed is_long mask at packet) else no 14)
    else no 8

abbrev pub Opens : Bool → List ℕ → ℕ → List ℕ → Answer Opened → List ℕ → Type 0
Opens is_long packet at mask = Changed (opened is_long at) (open_at is_long packet at mask) packet

-- Retry and Version Negotiation have no number, and nothing is looked at or changed
unfoldable pub finish_at : Bool → Bool → List ℕ → ℕ → List ℕ → Answer (List ℕ)
finish_at numbered is_long packet at mask = in_size packet (if numbered then open_at is_long packet at mask else ok packet)

unfoldable pub finished : Bool → Bool → ℕ → List ℕ → Opened
finished numbered is_long at packet = if numbered then opened is_long at packet else unnumbered

abbrev pub Finishes : Bool → Bool → List ℕ → ℕ → List ℕ → Answer Opened → List ℕ → Type 0
Finishes numbered is_long packet at mask = Changed (finished numbered is_long at) (finish_at numbered is_long packet at mask) packet

-- ---- the header, with the number, and the payload

-- r is the part of the packet at a place
abbrev pub PartAt : Bor (List ℕ) → Bor (List ℕ) → Place → Type 0
PartAt packet r place = Part packet r (start_of packet.now place) (part_of packet.now place)

abbrev pub header_place : ℕ → Option ℕ → Place
header_place at number = record { start = 0; len = at + number_bytes number }

abbrev pub payload_place : ℕ → Option ℕ → ℕ → Place
payload_place at number len = record { start = at + number_bytes number; len = len - (at + number_bytes number) }

-- ---- the mask step, whose answer is only that it is done; a header with a number is long where it has a Length

abbrev pub only_done : List ℕ → Unit {0}
only_done packet = tt

unfoldable pub protect_at : Bool → List ℕ → ℕ → List ℕ → Answer (List ℕ)
protect_at is_long packet at mask =
    if has_sample (length packet) at then
    (if eqb (byte_at packet 0 / long_header_form) (form_bit is_long) then ok (applied is_long mask at packet) else no 14)
    else no 8

abbrev pub Protects : Bool → List ℕ → ℕ → List ℕ → Answer (Unit {0}) → List ℕ → Type 0
Protects is_long packet at mask = Changed only_done (protect_at is_long packet at mask) packet

-- where there is no number, nothing is done
unfoldable pub mask_number : Option ℕ → Bool → ℕ → List ℕ → List ℕ → Answer (List ℕ)
mask_number none has_length header_len packet mask = ok packet
mask_number (some k) has_length header_len packet mask = protect_at has_length packet (header_len - k) mask

unfoldable pub mask_at : ℕ → Option ℕ → Bool → List ℕ → List ℕ → Answer (List ℕ)
mask_at header_len number has_length packet mask =
    if header_tests header_len number has_length (length packet) then mask_number number has_length header_len packet mask else no 14

abbrev pub Masks : ℕ → Option ℕ → Bool → List ℕ → List ℕ → Answer (Unit {0}) → List ℕ → Type 0
Masks header_len number has_length packet mask = Changed only_done (mask_at header_len number has_length packet mask) packet
