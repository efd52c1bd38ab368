use mathlib.Core.Path.{◌≡◌, refl, sym, ◌∙◌}
use mathlib.Core.Bool.{true}
use lib.ListN.{length}
use Rattle.protect.specs.Said.{number_len_of}
use Rattle.protect.proofs.Cases.{changed_no, changed_ok}
use Rattle.coding.specs.Said.{answer_of}
use Rattle.packet_out.proofs.Laws.{set_no, set_none, set_on, tests_length}
use Rattle.packet_out.proofs.set_length.Goals as goal

pub returns-then-not-header_tests : goal.returns-then-not-header_tests
unfolding answer_of
returns-then-not-header_tests c = changed_no _ _ (set_no _ _ _ _ (sym c.header_tests.ensures ∙ c.if-not-header_tests.true))

pub returns-then-not-has_length : goal.returns-then-not-has_length
unfolding answer_of
returns-then-not-has_length c = changed_ok _ _ (set_none _ _ _ _ (sym c.header_tests.ensures ∙ c.if-not-header_tests.false) c.if-not-has_length.true) refl

pub length_into-requires : goal.length_into-requires
length_into-requires c =
    let a = c.args in
    let h : a.has_length ≡ true = c.if-not-has_length.false in
    let t = tests_length a.header_len (length a.packet.now) (number_len_of a.number) (rw h at (sym c.header_tests.ensures ∙ c.if-not-header_tests.false)) in
    rw c.bytes_of.ensures t

pub returns : goal.returns
returns c =
    let a = c.args in
    let h : a.has_length ≡ true = c.if-not-has_length.false in
    rw (set_on a.header_len (number_len_of a.number) a.has_length a.packet.now (sym c.header_tests.ensures ∙ c.if-not-header_tests.false) _ c.bytes_of.ensures h)
    c.length_into.ensures
