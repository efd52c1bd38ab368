use native.Mathlib.Omega.{arith}
use native.Mathlib.Nat.{zero-add}
use mathlib.Core.Path.{◌∙◌}
use Rattle.coding.proofs.Laws.{put_nothing, sized_bytes, sized_not, size_last}
use Rattle.coding.proofs.Steps.{put_sized}
use Rattle.coding.proofs.Writes.{put_none}
use Rattle.coding.proofs.write_var.Goals as goal

pub returns-in_default : goal.returns-in_default
returns-in_default c = rw (put_nothing _ (sized_not _ _ _ c.size.ensures c.in_default.is)) (put_none _ _)

pub overflow_add-x : goal.overflow_add-x
overflow_add-x c = omega (arith, sized_bytes _ _ _ c.size.ensures c.in-Ok.is)

pub overflow_add-x-in-4 : goal.overflow_add-x-in-4
overflow_add-x-in-4 c = omega (arith, sized_bytes _ _ _ c.size.ensures c.in-Ok.is)

pub overflow_add-x-in_default-n : goal.overflow_add-x-in_default-n
overflow_add-x-in_default-n c = omega (arith, sized_bytes _ _ _ c.size.ensures c.in-Ok.is)

pub returns-in-1 : goal.returns-in-1
returns-in-1 c =
    let h = sized_bytes _ _ _ c.size.ensures c.in-Ok.is in
    put_sized _ 0 _ _ _ _ h.0 (h.1 ∙ c.in-1.is) (rw (zero-add _) c.put_num.ensures)

pub returns-in-2 : goal.returns-in-2
returns-in-2 c =
    let h = sized_bytes _ _ _ c.size.ensures c.in-Ok.is in
    put_sized _ 1 _ _ _ _ h.0 (h.1 ∙ c.in-2.is) c.put_num-in-2.ensures

pub returns-in-4 : goal.returns-in-4
returns-in-4 c =
    let h = sized_bytes _ _ _ c.size.ensures c.in-Ok.is in
    put_sized _ 2 _ _ _ _ h.0 (h.1 ∙ c.in-4.is) c.put_num-in-4.ensures

pub returns-in_default-n : goal.returns-in_default-n
returns-in_default-n c =
    let h = sized_bytes _ _ _ c.size.ensures c.in-Ok.is in
    let no = c.in_default-n.in_default-n-own.rest in
    put_sized _ 3 _ _ _ _ h.0 (size_last _ _ h.0 h.1 no.0.0.1 no.0.1 no.1) c.put_num-in_default-n.ensures
