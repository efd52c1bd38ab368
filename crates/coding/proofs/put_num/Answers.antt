use native.Mathlib.Omega.{arith}
use Rattle.coding.proofs.Laws.{length_bytes_be}
use Rattle.coding.proofs.Writes.{put_not, put_fits}
use borrow.Author.Rules.{rules}
use Rattle.coding.proofs.put_num.Goals as goal

pub returns-then-buf-at : goal.returns-then-buf-at
returns-then-buf-at c = put_not _ _ _ (simp length_bytes_be (search rules))

pub returns : goal.returns
returns c = put_fits _ _ _ (simp length_bytes_be (omega arith)) (record { place = simp length_bytes_be; bytes = search rules })
