-- Only one answer, and only one content of a lent buffer, meets the contract of each public function.
use mathlib.Core.Path.{◌≡◌, refl, ◌∙◌, sym, ap}
use mathlib.Core.List.{List}
use Prim.Native.Nat.{ℕ}
use mir.Syntax.{Dict}
use denote.Ref.{Bor}
use denote.Builtin.{u8, u16, u32, u64}
use denote.Struct.Field.{u8-field, u16-field, u32-field, u64-field}
use denote.Struct.Laws.{u8-laws, u16-laws, u32-laws, u64-laws, u8-copy, u16-copy, u32-copy, u64-copy}
use denote.Param.Shared.{copy_shared}
use denote.Param.Laws.{Laws, of_field}
use denote.RattleType.{RattleType}
use Rattle.coding.specs.declared.codec.Codec
use Rattle.coding.specs.contracts.codec.U8Codec.TheImpl as u8_codec
use Rattle.coding.specs.contracts.codec.U8Codec.TheImpl.Laws as u8_codec_laws
use Rattle.coding.specs.contracts.codec.U16Codec.TheImpl as u16_codec
use Rattle.coding.specs.contracts.codec.U16Codec.TheImpl.Laws as u16_codec_laws
use Rattle.coding.specs.contracts.codec.U32Codec.TheImpl as u32_codec
use Rattle.coding.specs.contracts.codec.U32Codec.TheImpl.Laws as u32_codec_laws
use Rattle.coding.specs.contracts.codec.U64Codec.TheImpl as u64_codec
use Rattle.coding.specs.contracts.codec.U64Codec.TheImpl.Laws as u64_codec_laws
use Rattle.coding.specs.Words.{Answer}
use Rattle.coding.specs.Once.{Once}
use Rattle.coding.specs.Places.{Part}
use Rattle.std.specs.Prelude.{Result}
use Rattle.coding.specs.Said.{answer_of, var_value}
use Rattle.coding.specs.declared.Place.{Place}
use Rattle.coding.specs.declared.reader.Reader.{Reader}
use Rattle.coding.specs.declared.refusal.UnexpectedEnd.{UnexpectedEnd}
use Rattle.coding.specs.declared.varint.VarInt.{VarInt}
use Rattle.coding.specs.declared.refusal.Refusal.{Refusal}
use Rattle.coding.specs.Writing.{Written, Put}
use Rattle.coding.proofs.Inverse.{reads_one, made_one, answer_one}
use Rattle.coding.specs.contracts.refusal.Refusal.number as number
use Rattle.coding.proofs.refusal.Refusal.number.Reads as number_reads
use Rattle.coding.specs.contracts.refusal.RefusalFromUnexpectedEnd.from as end_from
use Rattle.coding.proofs.refusal.RefusalFromUnexpectedEnd.from.Reads as end_from_reads
use Rattle.coding.specs.contracts.varint.VarInt.from_u32 as from_u32
use Rattle.coding.proofs.varint.VarInt.from_u32.Reads as from_u32_reads
use Rattle.coding.specs.contracts.varint.VarInt.from_u64 as from_u64
use Rattle.coding.proofs.varint.VarInt.from_u64.Reads as from_u64_reads
use Rattle.coding.specs.contracts.varint.VarInt.into_inner as into_inner
use Rattle.coding.proofs.varint.VarInt.into_inner.Reads as into_inner_reads
use Rattle.coding.specs.contracts.varint.VarInt.size as size
use Rattle.coding.proofs.varint.VarInt.size.Reads as size_reads
use Rattle.coding.specs.contracts.varint.VarInt.encode as encode
use Rattle.coding.proofs.varint.VarInt.encode.Reads as encode_reads
use Rattle.coding.specs.contracts.reader.Reader.get as get
use Rattle.coding.proofs.reader.Reader.get.Reads as get_reads
use Rattle.coding.specs.contracts.reader.Reader.get_var as get_var
use Rattle.coding.proofs.reader.Reader.get_var.Reads as get_var_reads
use Rattle.coding.specs.contracts.reader.Reader.take as take
use Rattle.coding.proofs.reader.Reader.take.Reads as take_reads
use Rattle.coding.specs.contracts.part as part
use Rattle.coding.proofs.part.Reads as part_reads
use Rattle.coding.specs.contracts.put as put
use Rattle.coding.proofs.put.Reads as put_reads
use Rattle.coding.specs.contracts.put_num as put_num
use Rattle.coding.proofs.put_num.Reads as put_num_reads
use Rattle.coding.specs.contracts.put_slice as put_slice
use Rattle.coding.proofs.put_slice.Reads as put_slice_reads
use Rattle.coding.specs.contracts.write_var as write_var
use Rattle.coding.proofs.write_var.Reads as write_var_reads

-- ---- what settles an answer, for every crate

-- what a caller sees of a part: where it points, and what stands there
abbrev pub seen : Bor (List ℕ) → (ℕ × ℕ) × List ℕ
seen r = (r.ref_ptr, r.now)

pub one_part : (s x y : Bor (List ℕ)) (n : ℕ) (l : List ℕ) → Part s x n l → Part s y n l → seen x ≡ seen y
one_part s x y n l p q i = (((p.block ∙ sym q.block) i, (p.offset ∙ sym q.offset) i), (p.bytes ∙ sym q.bytes) i)

pub one_put : (bs old : List ℕ) (at x y : ℕ) (b d : List ℕ) → Put bs old at x b → Put bs old at y d → ◌≡◌ {A = ℕ × List ℕ} (x, b) (y, d)
one_put bs old at x y b d p q i = ((p.place ∙ sym q.place) i, (p.bytes ∙ sym q.bytes) i)

pub one_written : (w : Answer (List ℕ)) (old : List ℕ) (x y : Result ℕ Refusal) (b d : List ℕ) → Written w old (answer_of x) b → Written w old (answer_of y) d
    → ◌≡◌ {A = Result ℕ Refusal × List ℕ} (x, b) (y, d)
one_written w old x y b d p q i = (answer_one x y _ p.says q.says i, (p.leaves ∙ sym q.leaves) i)

-- ---- refusals and integers

number_once : Once number.ended number_reads.Post (λ κs x s. x)
unfolding Once
number_once κs a x y s t p q = p ∙ sym q

end_from_once : Once end_from.ended end_from_reads.Post (λ κs x s. x)
unfolding Once
end_from_once κs a x y s t p q = p ∙ sym q

from_u32_once : Once from_u32.ended from_u32_reads.Post (λ κs x s. x)
unfolding Once
from_u32_once κs a x y s t p q = ap (λ (n : ℕ). record { 0 = n }) (p ∙ sym q)

from_u64_once : Once from_u64.ended from_u64_reads.Post (λ κs x s. x)
unfolding Once
from_u64_once κs a x y s t p q = made_one x y _ p q

into_inner_once : Once into_inner.ended into_inner_reads.Post (λ κs x s. x)
unfolding Once
into_inner_once κs a x y s t p q = p ∙ sym q

size_once : Once size.ended size_reads.Post (λ κs x s. x)
unfolding Once
size_once κs a x y s t p q = answer_one x y _ p q

encode_once : Once {B = Result ℕ Refusal × List ℕ} encode.ended encode_reads.Post (λ κs x s. (x, s.1.0.now))
unfolding Once
encode_once κs a x y s t p q = one_written _ _ x y _ _ p q

-- ---- reads

get_var_once : Once {B = Result VarInt UnexpectedEnd × Reader} get_var.ended get_var_reads.Post (λ κs x s. (x, s.0.now))
unfolding Once
get_var_once κs a x y s t p q = reads_one var_value (λ v w e i. record { 0 = e i }) _ _ _ _ x y p.0 q.0

take_once : Once {B = Result Place UnexpectedEnd × Reader} take.ended take_reads.Post (λ κs x s. (x, s.0.now))
unfolding Once
take_once κs a x y s t p q = reads_one (λ p. p) (λ v w e. e) _ _ _ _ x y p q

part_once : Once part.ended part_reads.Post (λ κs x s. seen x)
unfolding Once
part_once κs a x y s t p q = one_part _ x y _ _ p q

-- and so the whole reference is settled
part_whole : Once part.ended part_reads.Post (λ κs x s. x)
unfolding Once
part_whole κs a x y s t p q i =
    record { ref_ptr = ((p.block ∙ sym q.block) i, (p.offset ∙ sym q.offset) i); now = (p.bytes ∙ sym q.bytes) i }

-- ---- puts

put_num_once : Once {B = ℕ × List ℕ} put_num.ended put_num_reads.Post (λ κs x s. (x, s.0.now))
unfolding Once
put_num_once κs a x y s t p q = one_put _ _ _ x y _ _ p q

put_slice_once : Once {B = ℕ × List ℕ} put_slice.ended put_slice_reads.Post (λ κs x s. (x, s.0.now))
unfolding Once
put_slice_once κs a x y s t p q = one_put _ _ _ x y _ _ p q

write_var_once : Once {B = ℕ × List ℕ} write_var.ended write_var_reads.Post (λ κs x s. (x, s.0.now))
unfolding Once
write_var_once κs a x y s t p q = one_put _ _ _ x y _ _ p q

-- of any type whose numbers tell its values: the law `one` of Codec
module _ (T : RattleType) (laws : Laws T) (g : Codec.Ghosts T.Denot) (d : Dict) (one : (x y : T.Denot) → g.number x ≡ g.number y → x ≡ y) where
  get_once : Once {B = Result T.Denot UnexpectedEnd × Reader} (get.ended T g d) (get_reads.Post T laws g d) (λ κs x s. (x, s.0.now))
  unfolding Once
  get_once κs a x y s t p q = reads_one g.number one _ _ _ _ x y p q

  put_once : Once {B = ℕ × List ℕ} (put.ended T g d) (put_reads.Post T laws g d) (λ κs x s. (x, s.0.now))
  unfolding Once
  put_once κs a x y s t p q = one_put _ _ _ x y _ _ p q

-- at the integers of a known length, where each impl proves that law
u8_laws : Laws u8
u8_laws = of_field u8-field u8-laws refl (copy_shared u8-field u8-copy)

u16_laws : Laws u16
u16_laws = of_field u16-field u16-laws refl (copy_shared u16-field u16-copy)

u32_laws : Laws u32
u32_laws = of_field u32-field u32-laws refl (copy_shared u32-field u32-copy)

pub u64_laws : Laws u64
u64_laws = of_field u64-field u64-laws refl (copy_shared u64-field u64-copy)

get_u8_once : Once {B = Result ℕ UnexpectedEnd × Reader} (get.ended u8 u8_codec.ghosts u8_codec.dict) (get_reads.Post u8 u8_laws u8_codec.ghosts u8_codec.dict) (λ κs x s. (x, s.0.now))
get_u8_once = get_once u8 u8_laws u8_codec.ghosts u8_codec.dict u8_codec_laws.one-law

get_u16_once : Once {B = Result ℕ UnexpectedEnd × Reader} (get.ended u16 u16_codec.ghosts u16_codec.dict) (get_reads.Post u16 u16_laws u16_codec.ghosts u16_codec.dict) (λ κs x s. (x, s.0.now))
get_u16_once = get_once u16 u16_laws u16_codec.ghosts u16_codec.dict u16_codec_laws.one-law

get_u32_once : Once {B = Result ℕ UnexpectedEnd × Reader} (get.ended u32 u32_codec.ghosts u32_codec.dict) (get_reads.Post u32 u32_laws u32_codec.ghosts u32_codec.dict) (λ κs x s. (x, s.0.now))
get_u32_once = get_once u32 u32_laws u32_codec.ghosts u32_codec.dict u32_codec_laws.one-law

get_u64_once : Once {B = Result ℕ UnexpectedEnd × Reader} (get.ended u64 u64_codec.ghosts u64_codec.dict) (get_reads.Post u64 u64_laws u64_codec.ghosts u64_codec.dict) (λ κs x s. (x, s.0.now))
get_u64_once = get_once u64 u64_laws u64_codec.ghosts u64_codec.dict u64_codec_laws.one-law

put_u8_once : Once {B = ℕ × List ℕ} (put.ended u8 u8_codec.ghosts u8_codec.dict) (put_reads.Post u8 u8_laws u8_codec.ghosts u8_codec.dict) (λ κs x s. (x, s.0.now))
put_u8_once = put_once u8 u8_laws u8_codec.ghosts u8_codec.dict u8_codec_laws.one-law

put_u16_once : Once {B = ℕ × List ℕ} (put.ended u16 u16_codec.ghosts u16_codec.dict) (put_reads.Post u16 u16_laws u16_codec.ghosts u16_codec.dict) (λ κs x s. (x, s.0.now))
put_u16_once = put_once u16 u16_laws u16_codec.ghosts u16_codec.dict u16_codec_laws.one-law

put_u32_once : Once {B = ℕ × List ℕ} (put.ended u32 u32_codec.ghosts u32_codec.dict) (put_reads.Post u32 u32_laws u32_codec.ghosts u32_codec.dict) (λ κs x s. (x, s.0.now))
put_u32_once = put_once u32 u32_laws u32_codec.ghosts u32_codec.dict u32_codec_laws.one-law

put_u64_once : Once {B = ℕ × List ℕ} (put.ended u64 u64_codec.ghosts u64_codec.dict) (put_reads.Post u64 u64_laws u64_codec.ghosts u64_codec.dict) (λ κs x s. (x, s.0.now))
put_u64_once = put_once u64 u64_laws u64_codec.ghosts u64_codec.dict u64_codec_laws.one-law
