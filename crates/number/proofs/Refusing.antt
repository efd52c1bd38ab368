-- What cutting, reading back and the steps of the ends refuse has a number that is not 0.
use Rattle.std.specs.Prelude.{ℕ, ◌-◌, ◌*◌, ◌%◌, eqb, ltb, leb, if◌then◌else◌}
use native.Mathlib.Omega.{arith}
use Rattle.coding.specs.Words.{Answer, no, ok, number_end}
use Rattle.coding.proofs.Rules.{if_all}
use Rattle.coding.proofs.Numbers.{Refuses, fourteen}
use Rattle.shared.specs.declared.kinds.CutNumber.{CutNumber}
use Rattle.number.specs.Cutting.{window_of, bytes_for, is_cut, cut_to, cut_made}
use Rattle.number.specs.Expanding.{decode_a3, expanded}
use Rattle.number.specs.Ends.{Ends, Call, Packet, done, refused, send_end, receive_end, base_of, larger_of, send_with, send_by, acknowledge_by, accept_by, read_by}

pub cut_refuses : (n acked : ℕ) → Refuses (cut_made n acked)
unfolding cut_made cut_to
cut_refuses n acked =
    let k : ℕ = bytes_for (2 * (n - acked)) in
    if_all Refuses (ltb (number_end - 1) n) (no 14) (if ltb n acked then no 14 else cut_to n k) (λ _. fourteen) (λ _.
    if_all Refuses (ltb n acked) (no 14) (cut_to n k) (λ _. fourteen) (λ _.
    if_all Refuses (eqb k 0) (no 16) (ok (record { 0 = k; 1 = n % window_of k })) (λ _ z. omega (arith, z)) (λ _. tt)))

pub expanded_refuses : (c : CutNumber) (expected : ℕ) → Refuses (expanded c expected)
unfolding expanded
expanded_refuses c expected =
    let read : Answer ℕ = ok (decode_a3 (window_of c.0) c.1 expected) in
    if_all Refuses (is_cut c) (if ltb number_end expected then no 14 else read) (no 14)
    (λ _. if_all Refuses (ltb number_end expected) (no 14) read (λ _. fourteen) (λ _. tt)) (λ _. fourteen)

module _ (e : Ends) where
  with_refuses : (r : Answer CutNumber) → Refuses r → Refuses (send_with e r).says
  unfolding send_with
  with_refuses (ok c) h = tt
  with_refuses (no k) h = h

  pub send_refuses : Refuses (send_by e).says
  unfolding send_by
  send_refuses =
      if_all (λ (c : Call Packet). Refuses c.says) (send_end e) (send_with e (cut_made e.next (base_of e.acked))) (refused 14 e) (λ _. with_refuses _ (cut_refuses _ _)) (λ _. fourteen)

  pub acknowledge_refuses : (n : ℕ) → Refuses (acknowledge_by e n).says
  unfolding acknowledge_by
  acknowledge_refuses n =
      let P = λ (c : Call Unit). Refuses c.says in
      let taken : Call Unit = done tt (record { next = e.next; acked = larger_of e.acked n; largest = e.largest }) in
      if_all P (send_end e) (if leb e.next n then refused 14 e else taken) (refused 14 e)
      (λ _. if_all P (leb e.next n) (refused 14 e) taken (λ _. fourteen) (λ _. tt)) (λ _. fourteen)

  pub accept_refuses : (n : ℕ) → Refuses (accept_by e n).says
  unfolding accept_by
  accept_refuses n =
      let P = λ (c : Call Unit). Refuses c.says in
      let taken : Call Unit = done tt (record { next = e.next; acked = e.acked; largest = larger_of e.largest n }) in
      if_all P (receive_end e) (if ltb (number_end - 1) n then refused 14 e else taken) (refused 14 e)
      (λ _. if_all P (ltb (number_end - 1) n) (refused 14 e) taken (λ _. fourteen) (λ _. tt)) (λ _. fourteen)

  pub read_refuses : (c : CutNumber) → Refuses (read_by e c)
  unfolding read_by
  read_refuses c = expanded_refuses c _
