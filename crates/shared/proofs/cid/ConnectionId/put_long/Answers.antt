use Rattle.shared.specs.Cid.{long_bytes}
use Rattle.shared.proofs.Laws.{one_byte, length_cid, length_long, cid_some, long_some, long_nothing}
use Rattle.coding.proofs.Writes.{put_none, put_not, put_fits, put_so, so_put}
use native.Mathlib.Omega.{arith}
use mathlib.Core.Path.{◌≡◌}
use lib.ListN.{length}
use borrow.Author.Rules.{rules}
use Rattle.shared.proofs.cid.ConnectionId.put_long.Goals as goal
use Rattle.shared.proofs.cid.ConnectionId.put_long.Goals.{then-len-gt-MAX_CID_SIZE-via-then-len-gt-MAX_CID_SIZE, then-len-gt-MAX_CID_SIZE-via-else-len-gt-MAX_CID_SIZE+then-buf-at, then-len-gt-MAX_CID_SIZE-via-else-len-gt-MAX_CID_SIZE+else-buf-at+then-buf-at-2}

pub returns-then-len-gt-MAX_CID_SIZE : goal.returns-then-len-gt-MAX_CID_SIZE
returns-then-len-gt-MAX_CID_SIZE c =
    let a = c.args in
    let all : length a.self.bytes ≡ 20 = search rules in
    elim c.then-len-gt-MAX_CID_SIZE.branch [
      | then-len-gt-MAX_CID_SIZE-via-then-len-gt-MAX_CID_SIZE w ↦ rw (long_nothing a.self w.if-len-gt-MAX_CID_SIZE.true) (put_none _ _)
      | then-len-gt-MAX_CID_SIZE-via-else-len-gt-MAX_CID_SIZE+then-buf-at w ↦
          rw (long_some a.self w.if-len-gt-MAX_CID_SIZE.false) (put_not _ _ _ (omega (arith, length_long a.self (omega arith))))
      | then-len-gt-MAX_CID_SIZE-via-else-len-gt-MAX_CID_SIZE+else-buf-at+then-buf-at-2 w ↦
          rw (long_some a.self w.if-len-gt-MAX_CID_SIZE.false) (put_not _ _ _ (omega (arith, length_long a.self (omega arith))))
    ]

pub returns : goal.returns
unfolding long_bytes
returns c =
    let a = c.args in
    let all : length a.self.bytes ≡ 20 = search rules in
    let l = length_cid a.self (omega arith) in
    let u = rw (one_byte a.self.len (omega arith)) at c.put-next.ensures in
    let v = rw (cid_some a.self c.if-len-gt-MAX_CID_SIZE.false) at c.put_bytes.ensures in
    rw (long_some a.self c.if-len-gt-MAX_CID_SIZE.false)
    (put_fits _ _ _ (omega arith) (so_put (put_so _ _ _ (omega arith) u) (omega arith) v))
