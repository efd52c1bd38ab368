use Rattle.shared.proofs.Laws.{length_long, long_some, out_some, out_none}
use Rattle.coding.specs.Said.{answer_of}
use Rattle.coding.proofs.Writes.{written_no, written_short, written_ok, put_so}
use native.Mathlib.Omega.{arith}
use mathlib.Core.Path.{◌≡◌}
use lib.ListN.{length}
use borrow.Author.Rules.{rules}
use Rattle.shared.proofs.cid.ConnectionId.encode_long.Goals as goal

pub returns-then-len-gt-MAX_CID_SIZE : goal.returns-then-len-gt-MAX_CID_SIZE
unfolding answer_of
returns-then-len-gt-MAX_CID_SIZE c = written_no _ (out_none c.args.self c.if-len-gt-MAX_CID_SIZE.true)

pub returns-then-buf-len : goal.returns-then-buf-len
unfolding answer_of
returns-then-buf-len c =
    let a = c.args in
    let all : length a.self.bytes ≡ 20 = search rules in
    written_short _ (out_some a.self c.if-len-gt-MAX_CID_SIZE.false) (omega (arith, length_long a.self (omega arith)))

pub returns : goal.returns
unfolding answer_of
returns c =
    let a = c.args in
    let all : length a.self.bytes ≡ 20 = search rules in
    let l = length_long a.self (omega arith) in
    let p = rw (long_some a.self c.if-len-gt-MAX_CID_SIZE.false) at c.put_long.ensures in
    written_ok _ (out_some a.self c.if-len-gt-MAX_CID_SIZE.false) (omega arith) (put_so _ _ _ (omega arith) p)
