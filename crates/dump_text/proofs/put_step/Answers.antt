use native.Mathlib.Omega.{arith}
use mathlib.Core.List.{[], ◌∷◌}
use mathlib.Core.Bool.{false}
use Rattle.packet.specs.Said.{packet_step_of}
use Rattle.packet.proofs.Walks.{step_inside}
use Rattle.dump_text.proofs.put_step.Goals as goal

pub overflow_add-next : goal.overflow_add-next
unfolding packet_step_of
overflow_add-next c =
    let a = c.args in
    let p = c.in-Ok-Some.x.packet in
    let e = rw c.in-Ok-Some.field-0-is at c.in-Ok-Some.ensures in
    let m = step_inside a.s.now 0 (1 ∷ []) false a.at p.start p.len (rw (← e)) in
    omega arith
