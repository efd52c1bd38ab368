-- Only one answer, and only one content of a lent buffer, meets the contract of each exported function.
use mathlib.Core.Path.{◌≡◌, ◌∙◌, sym}
use mathlib.Core.List.{List}
use Prim.Native.Nat.{ℕ}
use Rattle.coding.specs.Words.{Answer}
use Rattle.coding.specs.Once.{Once}
use Rattle.timed.specs.Timed.{Writes}
use Rattle.timed.specs.declared.WriteAnswer.{WriteAnswer}
use Rattle.timed.specs.contracts.WriteAnswerFromResultUsizeRefusal.from as record_from
use Rattle.timed.proofs.WriteAnswerFromResultUsizeRefusal.from.Reads as record_from_reads
use Rattle.timed.specs.contracts.guobbarel_timed_read_vars as guobbarel_timed_read_vars
use Rattle.timed.proofs.guobbarel_timed_read_vars.Reads as guobbarel_timed_read_vars_reads
use Rattle.timed.specs.contracts.guobbarel_timed_cut as guobbarel_timed_cut
use Rattle.timed.proofs.guobbarel_timed_cut.Reads as guobbarel_timed_cut_reads
use Rattle.timed.specs.contracts.guobbarel_timed_expand as guobbarel_timed_expand
use Rattle.timed.proofs.guobbarel_timed_expand.Reads as guobbarel_timed_expand_reads
use Rattle.timed.specs.contracts.guobbarel_timed_reset_stream as guobbarel_timed_reset_stream
use Rattle.timed.proofs.guobbarel_timed_reset_stream.Reads as guobbarel_timed_reset_stream_reads
use Rattle.timed.specs.contracts.guobbarel_timed_stream_meta as guobbarel_timed_stream_meta
use Rattle.timed.proofs.guobbarel_timed_stream_meta.Reads as guobbarel_timed_stream_meta_reads
use Rattle.timed.specs.contracts.guobbarel_timed_crypto as guobbarel_timed_crypto
use Rattle.timed.proofs.guobbarel_timed_crypto.Reads as guobbarel_timed_crypto_reads
use Rattle.timed.specs.contracts.guobbarel_timed_new_connection_id as guobbarel_timed_new_connection_id
use Rattle.timed.proofs.guobbarel_timed_new_connection_id.Reads as guobbarel_timed_new_connection_id_reads
use Rattle.timed.specs.contracts.guobbarel_timed_connection_close as guobbarel_timed_connection_close
use Rattle.timed.proofs.guobbarel_timed_connection_close.Reads as guobbarel_timed_connection_close_reads
use Rattle.timed.specs.contracts.guobbarel_timed_ack as guobbarel_timed_ack
use Rattle.timed.proofs.guobbarel_timed_ack.Reads as guobbarel_timed_ack_reads
use Rattle.timed.specs.contracts.guobbarel_timed_dump as guobbarel_timed_dump
use Rattle.timed.proofs.guobbarel_timed_dump.Reads as guobbarel_timed_dump_reads

one_write : (w : Answer (List ℕ)) (old : List ℕ) (x y : WriteAnswer) (b d : List ℕ) → Writes w old x b → Writes w old y d → ◌≡◌ {A = WriteAnswer × List ℕ} (x, b) (y, d)
one_write w old x y b d p q i = ((p.says ∙ sym q.says) i, (p.leaves ∙ sym q.leaves) i)

guobbarel_timed_read_vars_once : Once guobbarel_timed_read_vars.ended guobbarel_timed_read_vars_reads.Post (λ κs x s. x)
unfolding Once
guobbarel_timed_read_vars_once κs a x y s t p q = p ∙ sym q

guobbarel_timed_cut_once : Once guobbarel_timed_cut.ended guobbarel_timed_cut_reads.Post (λ κs x s. x)
unfolding Once
guobbarel_timed_cut_once κs a x y s t p q = p ∙ sym q

guobbarel_timed_expand_once : Once guobbarel_timed_expand.ended guobbarel_timed_expand_reads.Post (λ κs x s. x)
unfolding Once
guobbarel_timed_expand_once κs a x y s t p q = p ∙ sym q

guobbarel_timed_reset_stream_once : Once {B = WriteAnswer × List ℕ} guobbarel_timed_reset_stream.ended guobbarel_timed_reset_stream_reads.Post (λ κs x s. (x, s.1.1.1.0.now))
unfolding Once
guobbarel_timed_reset_stream_once κs a x y s t p q = one_write _ _ x y _ _ p q

guobbarel_timed_stream_meta_once : Once {B = WriteAnswer × List ℕ} guobbarel_timed_stream_meta.ended guobbarel_timed_stream_meta_reads.Post (λ κs x s. (x, s.1.1.1.1.1.0.now))
unfolding Once
guobbarel_timed_stream_meta_once κs a x y s t p q = one_write _ _ x y _ _ p q

guobbarel_timed_crypto_once : Once {B = WriteAnswer × List ℕ} guobbarel_timed_crypto.ended guobbarel_timed_crypto_reads.Post (λ κs x s. (x, s.1.1.0.now))
unfolding Once
guobbarel_timed_crypto_once κs a x y s t p q = one_write _ _ x y _ _ p q

guobbarel_timed_new_connection_id_once : Once {B = WriteAnswer × List ℕ} guobbarel_timed_new_connection_id.ended guobbarel_timed_new_connection_id_reads.Post (λ κs x s. (x, s.1.1.1.1.1.0.now))
unfolding Once
guobbarel_timed_new_connection_id_once κs a x y s t p q = one_write _ _ x y _ _ p q

guobbarel_timed_connection_close_once : Once {B = WriteAnswer × List ℕ} guobbarel_timed_connection_close.ended guobbarel_timed_connection_close_reads.Post (λ κs x s. (x, s.1.1.1.1.0.now))
unfolding Once
guobbarel_timed_connection_close_once κs a x y s t p q = one_write _ _ x y _ _ p q

guobbarel_timed_ack_once : Once {B = WriteAnswer × List ℕ} guobbarel_timed_ack.ended guobbarel_timed_ack_reads.Post (λ κs x s. (x, s.1.1.0.now))
unfolding Once
guobbarel_timed_ack_once κs a x y s t p q = one_write _ _ x y _ _ p q

guobbarel_timed_dump_once : Once {B = WriteAnswer × List ℕ} guobbarel_timed_dump.ended guobbarel_timed_dump_reads.Post (λ κs x s. (x, s.1.0.now))
unfolding Once
guobbarel_timed_dump_once κs a x y s t p q = one_write _ _ x y _ _ p q

record_from_once : Once record_from.ended record_from_reads.Post (λ κs x s. x)
unfolding Once
record_from_once κs a x y s t p q = p ∙ sym q
