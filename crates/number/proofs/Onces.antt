-- Only one answer, and only one content of a lent buffer, meets the contract of each public function.
use mathlib.Core.Path.{◌∙◌, sym}
use mathlib.Core.List.{List}
use Prim.Native.Nat.{ℕ}
use Rattle.coding.specs.Once.{Once}
use Rattle.std.specs.Prelude.{Result}
use Rattle.coding.specs.declared.refusal.Refusal.{Refusal}
use Rattle.coding.proofs.Inverse.{answer_one}
use Rattle.coding.proofs.Onces.{one_put, one_written}
use Rattle.shared.specs.declared.kinds.CutNumber.{CutNumber}
use Rattle.shared.specs.declared.kinds.FullNumber.{FullNumber}
use Rattle.number.specs.declared.ends.Space.{Space}
use Rattle.number.proofs.Inverse.{full_one, space_one, sent_one, kept_one}
use Rattle.number.specs.contracts.new as new
use Rattle.number.proofs.new.Reads as new_reads
use Rattle.number.specs.contracts.len as len
use Rattle.number.proofs.len.Reads as len_reads
use Rattle.number.specs.contracts.put as put
use Rattle.number.proofs.put.Reads as put_reads
use Rattle.number.specs.contracts.encode as encode
use Rattle.number.proofs.encode.Reads as encode_reads
use Rattle.number.specs.contracts.decode as decode
use Rattle.number.proofs.decode.Reads as decode_reads
use Rattle.number.specs.contracts.decode_len as decode_len
use Rattle.number.proofs.decode_len.Reads as decode_len_reads
use Rattle.number.specs.contracts.tag as tag
use Rattle.number.proofs.tag.Reads as tag_reads
use Rattle.number.specs.contracts.expand as expand
use Rattle.number.proofs.expand.Reads as expand_reads
use Rattle.number.specs.contracts.ends.Space.fresh as fresh
use Rattle.number.proofs.ends.Space.fresh.Reads as fresh_reads
use Rattle.number.specs.contracts.ends.Space.send as send
use Rattle.number.proofs.ends.Space.send.Reads as send_reads
use Rattle.number.specs.contracts.ends.Space.acknowledge as acknowledge
use Rattle.number.proofs.ends.Space.acknowledge.Reads as acknowledge_reads
use Rattle.number.specs.contracts.ends.Space.read as read
use Rattle.number.proofs.ends.Space.read.Reads as read_reads
use Rattle.number.specs.contracts.ends.Space.accept as accept
use Rattle.number.proofs.ends.Space.accept.Reads as accept_reads

-- ---- cut numbers

new_once : Once new.ended new_reads.Post (λ κs x s. x)
unfolding Once
new_once κs a x y s t p q = answer_one x y _ p q

len_once : Once len.ended len_reads.Post (λ κs x s. x)
unfolding Once
len_once κs a x y s t p q = p ∙ sym q

put_once : Once {B = ℕ × List ℕ} put.ended put_reads.Post (λ κs x s. (x, s.1.0.now))
unfolding Once
put_once κs a x y s t p q = one_put _ _ _ x y _ _ p q

encode_once : Once {B = Result ℕ Refusal × List ℕ} encode.ended encode_reads.Post (λ κs x s. (x, s.1.0.now))
unfolding Once
encode_once κs a x y s t p q = one_written _ _ x y _ _ p q

decode_once : Once decode.ended decode_reads.Post (λ κs x s. x)
unfolding Once
decode_once κs a x y s t p q = answer_one x y _ p q

decode_len_once : Once decode_len.ended decode_len_reads.Post (λ κs x s. x)
unfolding Once
decode_len_once κs a x y s t p q = p ∙ sym q

tag_once : Once tag.ended tag_reads.Post (λ κs x s. x)
unfolding Once
tag_once κs a x y s t p q = answer_one x y _ p q

expand_once : Once expand.ended expand_reads.Post (λ κs x s. x)
unfolding Once
expand_once κs a x y s t p q = full_one x y _ p q

-- ---- the number ends

fresh_once : Once fresh.ended fresh_reads.Post (λ κs x s. x)
unfolding Once
fresh_once κs a x y s t p q = space_one x y _ p q

send_once : Once {B = Result (FullNumber × CutNumber) Refusal × Space} send.ended send_reads.Post (λ κs x s. (x, s.0.now))
unfolding Once
send_once κs a x y s t p q = sent_one (x, s.0.now) (y, t.0.now) _ p q

acknowledge_once : Once {B = Result Unit Refusal × Space} acknowledge.ended acknowledge_reads.Post (λ κs x s. (x, s.0.now))
unfolding Once
acknowledge_once κs a x y s t p q = kept_one (x, s.0.now) (y, t.0.now) _ p q

read_once : Once read.ended read_reads.Post (λ κs x s. x)
unfolding Once
read_once κs a x y s t p q = full_one x y _ p q

accept_once : Once {B = Result Unit Refusal × Space} accept.ended accept_reads.Post (λ κs x s. (x, s.0.now))
unfolding Once
accept_once κs a x y s t p q = kept_one (x, s.0.now) (y, t.0.now) _ p q
