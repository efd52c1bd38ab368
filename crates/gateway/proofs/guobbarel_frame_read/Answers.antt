use mathlib.Core.Path.{sym, ◌∙◌}
use native.Mathlib.Omega.{arith}
use Rattle.gateway_frame.proofs.PaddingRead.{stands, padding_read}
use Rattle.gateway.proofs.guobbarel_frame_read.Goals as goal

pub overflow_add-at : goal.overflow_add-at
overflow_add-at c =
    let h = stands _ _ (sym c.is_padding.ensures ∙ c.if-is_padding.true) in
    omega (arith, h.few, h.inside)

pub returns-then-is_padding : goal.returns-then-is_padding
returns-then-is_padding c =
    c.padding.ensures ∙ padding_read _ _ (stands _ _ (sym c.is_padding.ensures ∙ c.if-is_padding.true))
