-- The cases of the calls on the number ends.
use Prim.Native.Nat.{ℕ, ◌+◌, ◌-◌, ◌^◌, ◌≤◌, ◌<◌}
use mathlib.Core.Path.{◌≡◌, refl, sym, ap, ◌∙◌}
use mathlib.Core.Bool.{Bool, true, false}
use mathlib.Core.Logic.{⊎_elim}
use native.Mathlib.Omega.{arith}
use borrow.Author.Tests.{lt-ltb, le-ltb, le-leb, lt-leb, leb-false}
use Rattle.coding.specs.Words.{Answer, no, ok}
use Rattle.shared.specs.declared.kinds.CutNumber.{CutNumber}
use Rattle.number.specs.Cutting.{cut_made}
use Rattle.number.specs.Ends.{SoFar, none, at, Ends, base_of, expected_of, larger_of, send_end, receive_end, Call, refused, done, Packet, send_with, send_by, acknowledge_by, accept_by}
use Rattle.number.proofs.Windows.{le?}
use Rattle.number.proofs.Cuts.{CutIs, cut_is}

-- ---- ends that calls can have made

pub record SendMade (e : Ends) : Type 0 where
  pub top : e.next ≤ 2 ^ 62
  pub sent : expected_of e.acked ≤ e.next

module _ (e : Ends) where
  pub send_yes : SendMade e → send_end e ≡ true
  unfolding send_end
  send_yes m = simp (le-leb _ _ m.top, le-leb _ _ m.sent)

  pub send_high : 2 ^ 62 < e.next → send_end e ≡ false
  unfolding send_end
  send_high p = simp (lt-leb _ _ p)

  pub send_unsent : e.next ≤ 2 ^ 62 → e.next < expected_of e.acked → send_end e ≡ false
  unfolding send_end
  send_unsent p q = simp (le-leb _ _ p, lt-leb _ _ q)

  pub send_made : send_end e ≡ true → SendMade e
  send_made t =
      ⊎_elim
      (λ p. ⊎_elim (λ q. record { top = p; sent = q }) (λ q. never (send_unsent p q)) (le? (expected_of e.acked) e.next))
      (λ p. never (send_high p))
      (le? e.next (2 ^ 62))
    where
      never : send_end e ≡ false → SendMade e
      never f = let z : ◌≡◌ {A = ℕ} 0 1 = cc in absurd (omega arith)

  pub receive_yes : expected_of e.largest ≤ 2 ^ 62 → receive_end e ≡ true
  unfolding receive_end
  receive_yes p = le-leb _ _ p

  pub receive_past : receive_end e ≡ false → 2 ^ 62 < expected_of e.largest
  unfolding receive_end
  receive_past t = leb-false _ _ t

-- ---- the cases of each call

module _ (e : Ends) where
  pub send_14 : send_end e ≡ false → refused 14 e ≡ send_by e
  unfolding send_by
  send_14 t = rw t

  pub send_on : (a : Answer CutNumber) → send_end e ≡ true → a ≡ cut_made e.next (base_of e.acked) → send_with e a ≡ send_by e
  unfolding send_by
  send_on a t q = rw (t, q)

  module _ (n : ℕ) where
    pub acknowledge_14 : send_end e ≡ false → refused 14 e ≡ acknowledge_by e n
    unfolding acknowledge_by
    acknowledge_14 t = rw t

    pub acknowledge_unsent : send_end e ≡ true → e.next ≤ n → refused 14 e ≡ acknowledge_by e n
    unfolding acknowledge_by
    acknowledge_unsent t p = simp (t, le-leb _ _ p)

    pub acknowledge_on : send_end e ≡ true → n < e.next
        → done tt (record { next = e.next; acked = larger_of e.acked n; largest = e.largest }) ≡ acknowledge_by e n
    unfolding acknowledge_by
    acknowledge_on t p = simp (t, lt-leb _ _ p)

    pub accept_14 : receive_end e ≡ false → refused 14 e ≡ accept_by e n
    unfolding accept_by
    accept_14 t = rw t

    pub accept_high : receive_end e ≡ true → 2 ^ 62 - 1 < n → refused 14 e ≡ accept_by e n
    unfolding accept_by
    accept_high t p = simp (t, lt-ltb _ _ p)

    pub accept_on : receive_end e ≡ true → n ≤ 2 ^ 62 - 1
        → done tt (record { next = e.next; acked = e.acked; largest = larger_of e.largest n }) ≡ accept_by e n
    unfolding accept_by
    accept_on t p = simp (t, le-ltb _ _ p)

-- ---- the larger of two

-- a smaller number than the largest so far leaves it as it is
pub smaller_stays : (m n : ℕ) → n ≤ m → larger_of (at m) n ≡ at m
unfolding larger_of
smaller_stays m n p = simp (le-ltb m n p)

pub record Larger (l : SoFar) (n : ℕ) : Type 0 where
  pub keeps : expected_of l ≤ expected_of (larger_of l n)
  pub covers : n < expected_of (larger_of l n)
  pub within : {e : ℕ} → expected_of l ≤ e → n < e → expected_of (larger_of l n) ≤ e
  pub base : {e : ℕ} → base_of l ≤ e → n ≤ e → base_of (larger_of l n) ≤ e

pub larger : (l : SoFar) (n : ℕ) → Larger l n
unfolding larger_of expected_of base_of
larger none n = record { keeps = omega arith; covers = omega arith; within = λ p q. omega arith; base = λ p q. q }
larger (at m) n = ⊎_elim stays grows (le? n m)
  where
    stays : n ≤ m → Larger (at m) n
    stays p =
        let z = le-ltb m n p in
        record { keeps = rw z (omega arith); covers = rw z (omega arith); within = λ x y. rw z x; base = λ x y. rw z x }

    grows : m < n → Larger (at m) n
    grows p =
        let z = lt-ltb m n p in
        record { keeps = rw z (omega arith); covers = rw z (omega arith); within = λ x y. rw z (omega arith); base = λ x y. rw z y }

-- ---- what a call that is done says of the ends

-- a refusal is not done
not_done : {A B : Type 0} (k : ℕ) (a : A) (d e : Ends) → refused k d ≡ done a e → B
not_done k a d e q =
    let r : no k ≡ ok a = ap (λ (c : Call _). c.says) q in
    let z : ◌≡◌ {A = ℕ} 0 1 = cc in
    absurd (omega arith)

pub record SendIs (e : Ends) (p : Packet) (d : Ends) : Type 0 where
  pub made : SendMade e
  pub number : p.number ≡ e.next
  pub end : d ≡ record { next = e.next + 1; acked = e.acked; largest = e.largest }
  pub cut : CutIs e.next (base_of e.acked) p.carries

pub send_is : (e : Ends) {p : Packet} {d : Ends} → send_by e ≡ done p d → SendIs e p d
unfolding send_with
send_is e {p} {d} q = go (send_end e) refl (cut_made e.next (base_of e.acked)) refl
  where
    go : (t : Bool) → send_end e ≡ t → (a : Answer CutNumber) → cut_made e.next (base_of e.acked) ≡ a → SendIs e p d
    go false t a r = not_done 14 p e d (send_14 e t ∙ q)
    go true t (no k) r = not_done k p e d (send_on e (no k) t (sym r) ∙ q)
    go true t (ok c) r =
        let s = send_on e (ok c) t (sym r) ∙ q in
        let f : ok (record { number = e.next; carries = c }) ≡ ok p = ap (λ (x : Call Packet). x.says) s in
        let g : record { number = e.next; carries = c } ≡ p = cc in
        record {
          made = send_made e t;
          number = sym (ap (λ (x : Packet). x.number) g);
          end = sym (ap (λ (x : Call Packet). x.leaves) s);
          cut = rw (← ap (λ (x : Packet). x.carries) g) (cut_is _ _ c r);
        }

pub record AcknowledgeIs (e : Ends) (n : ℕ) (d : Ends) : Type 0 where
  pub made : SendMade e
  pub sent : n < e.next
  pub end : d ≡ record { next = e.next; acked = larger_of e.acked n; largest = e.largest }

pub acknowledge_is : (e : Ends) (n : ℕ) {d : Ends} → acknowledge_by e n ≡ done tt d → AcknowledgeIs e n d
acknowledge_is e n {d} q = go (send_end e) refl
  where
    go : (t : Bool) → send_end e ≡ t → AcknowledgeIs e n d
    go false t = not_done 14 tt e d (acknowledge_14 e n t ∙ q)
    go true t =
        ⊎_elim
        (λ p. not_done 14 tt e d (acknowledge_unsent e n t p ∙ q))
        (λ p. record { made = send_made e t; sent = p; end = sym (ap (λ (x : Call Unit). x.leaves) (acknowledge_on e n t p ∙ q)) })
        (le? e.next n)

pub record AcceptIs (e : Ends) (n : ℕ) (d : Ends) : Type 0 where
  pub top : n ≤ 2 ^ 62 - 1
  pub end : d ≡ record { next = e.next; acked = e.acked; largest = larger_of e.largest n }

pub accept_is : (e : Ends) (n : ℕ) {d : Ends} → accept_by e n ≡ done tt d → AcceptIs e n d
accept_is e n {d} q = go (receive_end e) refl
  where
    go : (t : Bool) → receive_end e ≡ t → AcceptIs e n d
    go false t = not_done 14 tt e d (accept_14 e n t ∙ q)
    go true t =
        ⊎_elim
        (λ p. record { top = p; end = sym (ap (λ (x : Call Unit). x.leaves) (accept_on e n t p ∙ q)) })
        (λ p. not_done 14 tt e d (accept_high e n t p ∙ q))
        (le? n (2 ^ 62 - 1))

-- such calls make such ends again
pub sent_made : {e : Ends} {p : Packet} {d : Ends} → SendIs e p d → SendMade d
sent_made x = rw x.end (record { top = omega (arith, x.cut.top); sent = omega (arith, x.made.sent) })

pub acknowledged_made : {e : Ends} {n : ℕ} {d : Ends} → AcknowledgeIs e n d → SendMade d
acknowledged_made {e} {n} x = rw x.end (record { top = x.made.top; sent = (larger e.acked n).within x.made.sent x.sent })

-- ---- a refused call leaves the ends as they were

-- what is done is not refused
not_refused : {A B : Type 0} {c : Call A} {a : A} {d : Ends} {k : ℕ} → done a d ≡ c → c.says ≡ no k → B
not_refused {A} {B} {c} {a} {d} {k} q r =
    let s : ok a ≡ no k = ap (λ (x : Call A). x.says) q ∙ r in
    let z : ◌≡◌ {A = ℕ} 0 1 = cc in
    absurd (omega arith)

module _ (e : Ends) (k : ℕ) where
  pub send_refused : (send_by e).says ≡ no k → (send_by e).leaves ≡ e
  unfolding send_with
  send_refused q = go (send_end e) refl (cut_made e.next (base_of e.acked)) refl
    where
      go : (t : Bool) → send_end e ≡ t → (a : Answer CutNumber) → cut_made e.next (base_of e.acked) ≡ a → (send_by e).leaves ≡ e
      go false t a r = ap (λ (x : Call Packet). x.leaves) (sym (send_14 e t))
      go true t (no j) r = ap (λ (x : Call Packet). x.leaves) (sym (send_on e (no j) t (sym r)))
      go true t (ok c) r = not_refused (send_on e (ok c) t (sym r)) q

  module _ (n : ℕ) where
    pub acknowledge_refused : (acknowledge_by e n).says ≡ no k → (acknowledge_by e n).leaves ≡ e
    acknowledge_refused q = go (send_end e) refl
      where
        go : (t : Bool) → send_end e ≡ t → (acknowledge_by e n).leaves ≡ e
        go false t = ap (λ (x : Call Unit). x.leaves) (sym (acknowledge_14 e n t))
        go true t =
            ⊎_elim
            (λ p. ap (λ (x : Call Unit). x.leaves) (sym (acknowledge_unsent e n t p)))
            (λ p. not_refused (acknowledge_on e n t p) q)
            (le? e.next n)

    pub accept_refused : (accept_by e n).says ≡ no k → (accept_by e n).leaves ≡ e
    accept_refused q = go (receive_end e) refl
      where
        go : (t : Bool) → receive_end e ≡ t → (accept_by e n).leaves ≡ e
        go false t = ap (λ (x : Call Unit). x.leaves) (sym (accept_14 e n t))
        go true t =
            ⊎_elim
            (λ p. not_refused (accept_on e n t p) q)
            (λ p. ap (λ (x : Call Unit). x.leaves) (sym (accept_high e n t p)))
            (le? n (2 ^ 62 - 1))
