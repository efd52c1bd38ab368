-- Only one answer meets the contract of each public function.
use Rattle.std.specs.Prelude.{Result}
use Rattle.coding.specs.Once.{Once}
use Rattle.coding.specs.declared.refusal.Refusal.{Refusal}
use Rattle.shared.specs.declared.kinds.CutNumber.{CutNumber}
use Rattle.shared.specs.declared.kinds.FullNumber.{FullNumber}
use Rattle.spaces.specs.declared.Spaces.{Spaces}
use Rattle.number.proofs.Inverse.{space_one, full_one}
use Rattle.spaces.proofs.Inverse.{in_one, spaces_one, sent_one, kept_one}
use Rattle.spaces.specs.contracts.space_of as space_of
use Rattle.spaces.proofs.space_of.Reads as space_of_reads
use Rattle.spaces.specs.contracts.Spaces.fresh as fresh
use Rattle.spaces.proofs.Spaces.fresh.Reads as fresh_reads
use Rattle.spaces.specs.contracts.Spaces.get as get
use Rattle.spaces.proofs.Spaces.get.Reads as get_reads
use Rattle.spaces.specs.contracts.Spaces.put as put
use Rattle.spaces.proofs.Spaces.put.Reads as put_reads
use Rattle.spaces.specs.contracts.Spaces.send as send
use Rattle.spaces.proofs.Spaces.send.Reads as send_reads
use Rattle.spaces.specs.contracts.Spaces.acknowledge as acknowledge
use Rattle.spaces.proofs.Spaces.acknowledge.Reads as acknowledge_reads
use Rattle.spaces.specs.contracts.Spaces.read as read
use Rattle.spaces.proofs.Spaces.read.Reads as read_reads
use Rattle.spaces.specs.contracts.Spaces.accept as accept
use Rattle.spaces.proofs.Spaces.accept.Reads as accept_reads

space_of_once : Once space_of.ended space_of_reads.Post (λ κs x s. x)
unfolding Once
space_of_once κs a x y s t p q = in_one x y _ p q

fresh_once : Once fresh.ended fresh_reads.Post (λ κs x s. x)
unfolding Once
fresh_once κs a x y s t p q = spaces_one x y _ p q

get_once : Once get.ended get_reads.Post (λ κs x s. x)
unfolding Once
get_once κs a x y s t p q = space_one x y _ p q

put_once : Once put.ended put_reads.Post (λ κs x s. x)
unfolding Once
put_once κs a x y s t p q = spaces_one x y _ p q

send_once : Once {B = Result (FullNumber × CutNumber) Refusal × Spaces} send.ended send_reads.Post (λ κs x s. (x, s.0.now))
unfolding Once
send_once κs a x y s t p q = sent_one (x, s.0.now) (y, t.0.now) _ p q

acknowledge_once : Once {B = Result Unit Refusal × Spaces} acknowledge.ended acknowledge_reads.Post (λ κs x s. (x, s.0.now))
unfolding Once
acknowledge_once κs a x y s t p q = kept_one (x, s.0.now) (y, t.0.now) _ p q

read_once : Once read.ended read_reads.Post (λ κs x s. x)
unfolding Once
read_once κs a x y s t p q = full_one x y _ p q

accept_once : Once {B = Result Unit Refusal × Spaces} accept.ended accept_reads.Post (λ κs x s. (x, s.0.now))
unfolding Once
accept_once κs a x y s t p q = kept_one (x, s.0.now) (y, t.0.now) _ p q
