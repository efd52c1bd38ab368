-- What each of the code's arguments and answers says, in document 01's numbers and values.
use Rattle.std.specs.Prelude.{◌≡◌, ℕ, ◌+◌, true, false, ◌&&◌, leb, List, length, Result, Ok, Err}
use Rattle.coding.specs.Words.{Answer, no, ok}
use Rattle.coding.specs.Refusals.{number_of}
use Rattle.coding.specs.declared.refusal.Refusal.{Refusal}
use Rattle.shared.specs.Cid.{max_cid, cid_of}
use Rattle.shared.specs.declared.kinds.CutNumber.{CutNumber}
use Rattle.packet.specs.Said.{option_of}
use Rattle.packet.specs.declared.header.LongType.{LongType}
use Rattle.packet.specs.declared.header.LongType.TheVariants as ty
use Rattle.protect.specs.Said.{number_len_of}
use Rattle.packet.specs.TypeBits.{bits_of}
use Rattle.packet_out.specs.Encoding.{Plain, initial, zero_rtt, handshake, retry, short, negotiate, plain_number, number_keeps, Shape, shape_by, shape_bytes, Partial}
use Rattle.packet_out.specs.Before.{number_size, length_fits, field_for}
use Rattle.packet_out.specs.declared.header.Header.{Header}
use Rattle.packet_out.specs.declared.header.Header.TheVariants as head
use Rattle.packet_out.specs.declared.form.Form.{Form}
use Rattle.packet_out.specs.declared.lent.Lent.{Lent}
use Rattle.packet_out.specs.declared.PartialEncode.{PartialEncode}

-- the header of a type with a Length and no token
abbrev pub written_long : LongType → CutNumber → ℕ → Plain
written_long ty.Handshake = handshake
written_long ty.ZeroRtt = zero_rtt

abbrev pub plain_of : Header → Plain
plain_of (head.Initial number version) = initial number version
plain_of (head.Long ty number version) = written_long ty number version
plain_of (head.Retry version) = retry version
plain_of (head.Short spin phase number) = short spin phase number
plain_of (head.VersionNegotiate random) = negotiate random

abbrev pub shape_of : Form → Shape
shape_of f = record { first = f.first; version = option_of f.version; has_token = f.has_token; has_length = f.has_length }

-- a header's form, or 14 where its number breaks its rule
abbrev pub Formed : Plain → Result Form Refusal → Type 0
Formed p (Ok f) = (shape_of f ≡ shape_by bits_of p) × (option_of f.number ≡ plain_number p)
Formed p (Err why) = (number_of why ≡ 14) × (number_keeps (plain_number p) ≡ false)

-- the two bytes of its Length before a payload of n bytes, or 14 where they do not hold it
abbrev pub FieldFor : Plain → ℕ → Result ℕ Refusal → Type 0
FieldFor p n (Ok field) = (length_fits (shape_by bits_of p).has_length (number_size p + n) ≡ true) × (field ≡ field_for (shape_by bits_of p).has_length (number_size p + n))
FieldFor p n (Err why) = (number_of why ≡ 14) × (length_fits (shape_by bits_of p).has_length (number_size p + n) ≡ false)

-- connection ids and a token as they are lent, or 14 where a connection id breaks its rule
abbrev pub Lends : List ℕ → List ℕ → List ℕ → Result Lent Refusal → Type 0
Lends dst src token (Ok l) = (l.dst_cid.now ≡ dst) × (l.src_cid.now ≡ src) × (l.token.now ≡ token)
Lends dst src token (Err why) = (number_of why ≡ 14) × ((leb (length dst) max_cid && leb (length src) max_cid) ≡ false)

-- the bytes of a header by its form, over what is lent, with these bytes for its Length
abbrev pub form_bytes : List ℕ → Form → Lent → List ℕ
form_bytes field f l = shape_bytes field (shape_of f) (option_of f.number) (cid_of l.dst_cid.now) (cid_of l.src_cid.now) l.token.now

abbrev pub partial_said : PartialEncode → Partial
partial_said p = record { header_len = p.header_len; number = number_len_of p.number; has_length = p.has_length }

unfoldable pub encoded_of : Result PartialEncode Refusal → Answer Partial
encoded_of (Ok p) = ok (partial_said p)
encoded_of (Err why) = no (number_of why)
