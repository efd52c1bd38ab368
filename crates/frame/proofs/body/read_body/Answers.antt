use native.Mathlib.Omega.{arith}
use mathlib.Core.Path.{refl, sym, ◌∙◌}
use Rattle.frame.specs.Format.{fields_at}
use Rattle.frame.specs.Table.{frame_body_at, table}
use Rattle.frame.specs.Said.{body_of}
use Rattle.frame.proofs.Look.{past}
use Rattle.frame.proofs.Arms.{keys, stream_arm, datagram_arm, between_arm, above_arm}
use Rattle.frame.proofs.body.read_body.Goals as goal

pub returns-in-8-to-15 : goal.returns-in-8-to-15
unfolding frame_body_at table fields_at body_of
returns-in-8-to-15 c = let a = c.args in
    let r = c.in-8-to-15.in_default-own.rest in
    c.stream.ensures ∙ sym (stream_arm a.ty.0 _ _ r (past keys a.ty.0 r 0 8 (omega arith) refl) (omega arith))

pub returns-in-48-to-49 : goal.returns-in-48-to-49
unfolding frame_body_at table fields_at body_of
returns-in-48-to-49 c = let a = c.args in
    let r = c.in-48-to-49.in_default-own.rest in
    c.datagram.ensures ∙ sym (datagram_arm a.ty.0 _ _ r (omega arith) (omega arith))

pub returns-in_default : goal.returns-in_default
unfolding frame_body_at table fields_at body_of
returns-in_default c = let a = c.args in
    let r = c.in_default.in_default-own.rest in
    sym (between_arm a.ty.0 _ _ r (omega arith) (omega arith))

pub returns-in_default-2 : goal.returns-in_default-2
unfolding frame_body_at table fields_at body_of
returns-in_default-2 c = let a = c.args in
    let r = c.in_default.in_default-own.rest in
    sym (above_arm a.ty.0 _ _ r (omega arith))
