use Rattle.shared.specs.Cid.{cid_bytes}
use Rattle.coding.proofs.Writes.{put_none}
use Rattle.shared.proofs.Laws.{cid_some, cid_nothing}
use Rattle.shared.proofs.cid.ConnectionId.put_bytes.Goals as goal

pub returns-then-len-gt-MAX_CID_SIZE : goal.returns-then-len-gt-MAX_CID_SIZE
returns-then-len-gt-MAX_CID_SIZE c = rw (cid_nothing c.args.self c.if-len-gt-MAX_CID_SIZE.true) (put_none _ _)

pub returns : goal.returns
unfolding cid_bytes
returns c = rw (cid_some c.args.self c.if-len-gt-MAX_CID_SIZE.false) c.put_slice.ensures
