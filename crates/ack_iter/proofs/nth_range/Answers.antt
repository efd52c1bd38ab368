use Rattle.std.proofs.Common.{◌≡◌, ℕ, suc, ◌+◌, ◌-◌, ◌<◌, List, drop, ◌∙◌, arith}
use Rattle.ack.specs.Step.{ack_step}
use Rattle.ack_iter.specs.Iter.{step_after}
use Rattle.ack_iter.proofs.nth_range.Goals as goal

-- one step less to come, over what a step left
one_less : (n i : ℕ) (s r : List ℕ) (largest l : ℕ) → i < n → l ≡ (ack_step s 0 largest).largest → r ≡ drop (ack_step s 0 largest).next s
    → step_after (n - (i + 1)) r l ≡ step_after (n - i) s largest
unfolding step_after
one_less n i s r largest l h p q = let e : n - i ≡ suc (n - (i + 1)) = omega arith in rw (e, p, q)

pub loop-preserved : goal.loop-preserved
loop-preserved c =
    let it = c.loop.it in
    one_less c.args.n c.loop.counter it.«data».now _ it.largest.0 _ c.loop-test.true c.next.ensures.1 c.next.ensures.2.bytes ∙ c.loop.invariant
