-- A packet number is never cut, and 9 is never answered.
use Rattle.std.specs.Prelude.{ℕ, ◌/◌, eqb, ltb, if◌then◌else◌}
use mathlib.Core.Path.{◌≡◌, sym, ◌∙◌}
use mathlib.Core.List.{List}
use mathlib.Core.Bool.{Bool}
use mathlib.Core.Option.{Option, none, some}
use native.Mathlib.Omega.{arith}
use lib.ListN.{length, length-drop}
use borrow.Author.Tests.{leb-true}
use Rattle.coding.specs.Words.{Answer, no, ok, max_datagram}
use Rattle.coding.specs.Bytes.{byte_at}
use Rattle.coding.proofs.Rules.{if_all}
use Rattle.shared.specs.FirstByte.{long_header_form}
use Rattle.protect.specs.Tests.{in_size, has_sample, form_bit, header_tests}
use Rattle.protect.specs.Protection.{applied, removed}
use Rattle.protect.specs.Steps.{read_off, open_at, finish_at, protect_at, mask_number, mask_at}
use Rattle.protect.specs.Inside.{FourLeft, FinishNotNine, MaskNotNine}

pub four_left : FourLeft
four_left packet at k = rw (length-drop at packet) (omega (arith, leb-true _ (length packet) k))

-- an answer that is a value, or a refusal with another number
abbrev Other : Answer (List ℕ) → Type 0
Other (ok new) = Unit
Other (no k) = k ≡ 9 → ⊥

eight : Other (no 8)
eight e = omega (arith, e)

fourteen : Other (no 14)
fourteen e = omega (arith, e)

-- what is answered is not 9 then
said_other : {A : Type 0} (read : List ℕ → A) (w : Answer (List ℕ)) {said : Answer A} → Other w → said ≡ read_off read w → said ≡ no 9 → ⊥
unfolding read_off
said_other read (no k) h s e =
    let q : no k ≡ no 9 = sym s ∙ e in
    h cc
said_other read (ok new) h s e =
    let q : ok (read new) ≡ no 9 = sym s ∙ e in
    let z : ◌≡◌ {A = ℕ} 0 1 = cc in
    omega arith

module _ (packet mask : List ℕ) where
  open_other : (is_long : Bool) (at : ℕ) → Other (open_at is_long packet at mask)
  unfolding open_at
  open_other is_long at =
      let form : Bool = eqb (byte_at packet 0 / long_header_form) (form_bit is_long) in
      let opened : Answer (List ℕ) = ok (removed is_long mask at packet) in
      let sampled : Answer (List ℕ) = if has_sample (length packet) at then (if form then opened else no 14) else no 8 in
      if_all Other (eqb at 0) (no 14) sampled (λ _. fourteen) (λ _.
      if_all Other (has_sample (length packet) at) (if form then opened else no 14) (no 8) (λ _. if_all Other form opened (no 14) (λ _. tt) (λ _. fourteen)) (λ _. eight))

  finish_other : (numbered is_long : Bool) (at : ℕ) → Other (finish_at numbered is_long packet at mask)
  unfolding finish_at in_size
  finish_other numbered is_long at =
      let opened : Answer (List ℕ) = if numbered then open_at is_long packet at mask else ok packet in
      if_all Other (ltb max_datagram (length packet)) (no 14) opened (λ _. fourteen) (λ _.
      if_all Other numbered (open_at is_long packet at mask) (ok packet) (λ _. open_other is_long at) (λ _. tt))

  protect_other : (is_long : Bool) (at : ℕ) → Other (protect_at is_long packet at mask)
  unfolding protect_at
  protect_other is_long at =
      let form : Bool = eqb (byte_at packet 0 / long_header_form) (form_bit is_long) in
      let made : Answer (List ℕ) = ok (applied is_long mask at packet) in
      if_all Other (has_sample (length packet) at) (if form then made else no 14) (no 8) (λ _. if_all Other form made (no 14) (λ _. tt) (λ _. fourteen)) (λ _. eight)

  number_other : (number : Option ℕ) (has_length : Bool) (header_len : ℕ) → Other (mask_number number has_length header_len packet mask)
  unfolding mask_number
  number_other none has_length header_len = tt
  number_other (some k) has_length header_len = protect_other has_length _

  mask_other : (header_len : ℕ) (number : Option ℕ) (has_length : Bool) → Other (mask_at header_len number has_length packet mask)
  unfolding mask_at
  mask_other header_len number has_length =
      if_all Other (header_tests header_len number has_length (length packet)) (mask_number number has_length header_len packet mask) (no 14) (λ _. number_other number has_length header_len) (λ _. fourteen)

pub finish_not_nine : FinishNotNine
finish_not_nine numbered is_long packet at mask said new c = said_other _ _ (finish_other packet mask numbered is_long at) c.says

pub mask_not_nine : MaskNotNine
mask_not_nine header_len number has_length packet mask said new c = said_other _ _ (mask_other packet mask header_len number has_length) c.says
