use mathlib.Core.Path.{◌∙◌}
use native.Mathlib.Omega.{arith}
use Rattle.coding.specs.Words.{and_then}
use Rattle.coding.specs.Said.{found_by, answer_of}
use Rattle.ack.proofs.Laws.{in_rule}
use Rattle.ack.proofs.Tries.{went, left}
use Rattle.frame.specs.Format.{blocks_at, up_to}
use Rattle.frame.specs.Said.{field_of}
use Rattle.frame.proofs.Rules.{exit_field}
use Rattle.frame.proofs.Scans.{scan_past}
use Rattle.frame.proofs.field.ack_blocks.Goals as goal

-- the count is below 2^62, so that the scan's rule refuses nothing
pub returns-in_err-r-clause-reads : goal.returns-in_err-r-clause-reads
unfolding blocks_at up_to field_of and_then found_by answer_of
returns-in_err-r-clause-reads c =
    let few = rw c.in_ok-count.was at c.get_var.ensures.below in
    let short = rw (← c.get_var.ensures.reads.bytes) at c.requires.1 in
    let e = c.scan_ack_blocks.ensures ∙ in_rule _ _ _ _ short c.requires.0 few in
    grind (arith, went, left, exit_field)

pub overflow_sub-result : goal.overflow_sub-result
overflow_sub-result c = scan_past _ _ _ _ _ _ c.scan_ack_blocks.ensures c.in_ok-r.was

pub returns-clause-reads : goal.returns-clause-reads
unfolding blocks_at up_to field_of and_then found_by answer_of
returns-clause-reads c =
    let few = rw c.in_ok-count.was at c.get_var.ensures.below in
    let short = rw (← c.get_var.ensures.reads.bytes) at c.requires.1 in
    let e = c.scan_ack_blocks.ensures ∙ in_rule _ _ _ _ short c.requires.0 few in
    grind (arith, went, left)
