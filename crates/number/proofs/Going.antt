-- Worlds that are reached: the sender goes on; a packet is accepted and heard of; numbers are sent, accepted and heard of one by one.
use Prim.Native.Nat.{ℕ, zero, suc, ◌+◌, ◌-◌, ◌*◌, ◌%◌, ◌^◌, ◌≤◌, ◌<◌}
use mathlib.Core.Path.{◌≡◌, refl, sym, ap, ◌∙◌}
use mathlib.Core.List.{Memᴰ}
use mathlib.Core.Logic.{inl, ⊎_elim}
use native.Mathlib.Nat.{one-le-pow}
use native.Mathlib.Omega.{arith}
use borrow.Author.Tests.{lt-ltb}
use Rattle.coding.specs.Words.{ok}
use Rattle.number.specs.Cutting.{cut, window_of, bytes_for}
use Rattle.number.specs.Ends.{SoFar, none, at, Ends, base_of, expected_of, larger_of, Packet, done, send_with, send_by}
use Rattle.number.specs.Line.{World, fresh_world, LineStep, Reach}
use Rattle.number.specs.Line.LineStep.{sends, accepts, acknowledges, hears}
use Rattle.number.specs.Line.Reach.{start, next}
use Rattle.number.proofs.Windows.{le?, bytes_some}
use Rattle.number.proofs.Cuts.{made_cut}
use Rattle.number.proofs.Calls.{SendMade, send_yes, send_on}
use Rattle.number.proofs.Delivery.{inv, LargestIn, largest_in, delivered, heard, taken}

-- ---- the sender goes on

-- the packet with number n, cut from a base
abbrev pub packet : ℕ → ℕ → Packet
packet base n = record { number = n; carries = cut (bytes_for (2 * (n - base))) (n % window_of (bytes_for (2 * (n - base)))) }

pub base_le : (l : SoFar) → base_of l ≤ expected_of l
unfolding base_of expected_of
base_le none = omega arith
base_le (at m) = omega arith

pub send_packet : (e : Ends) → SendMade e → e.next < 2 ^ 62 → e.next < base_of e.acked + 2 ^ 31
    → send_by e ≡ done (packet (base_of e.acked) e.next) (record { next = e.next + 1; acked = e.acked; largest = e.largest })
unfolding send_with
send_packet e m p q =
    let b : ℕ = base_of e.acked in
    let low : b ≤ e.next = omega (arith, m.sent, base_le e.acked) in
    let k : ℕ = bytes_for (2 * (e.next - b)) in
    sym (send_on e (ok (cut k (e.next % window_of k))) (send_yes e m) (made_cut e.next b (omega arith) low k refl (bytes_some _ (omega arith))))

-- a world after w with j packets more
pub record More (w : World) (j : ℕ) : Type 0 where
  pub world : World
  pub reach : Reach world
  pub receiver : world.receiver ≡ w.receiver
  pub acked : world.sender.acked ≡ w.sender.acked
  pub next : world.sender.next ≡ w.sender.next + j
  pub keeps : {p : Packet} → Memᴰ p w.sent → Memᴰ p world.sent
  pub adds : (i : ℕ) → i < j → Memᴰ (packet (base_of w.sender.acked) (w.sender.next + i)) world.sent

one_more : (w : World) (j : ℕ) → w.sender.next + j < 2 ^ 62 → w.sender.next + j < base_of w.sender.acked + 2 ^ 31 → More w j → More w (suc j)
one_more w j p q m =
    let s = m.world.sender in
    let b : base_of s.acked ≡ base_of w.sender.acked = ap base_of m.acked in
    let e = send_packet s (inv m.reach).made (omega (arith, m.next)) (omega (arith, m.next, b)) in
    record {
      world = _;
      reach = next m.reach (sends e);
      receiver = m.receiver;
      acked = m.acked;
      next = omega (arith, m.next);
      keeps = λ x. Memᴰ.tail (m.keeps x);
      adds =
          λ i x.
          ⊎_elim
          (λ y. Memᴰ.tail (m.adds i y))
          (λ y.
          let z : w.sender.next + i ≡ s.next = omega (arith, m.next) in
          Memᴰ.head (rw (b, z)))
          (le? (suc i) j);
    }

pub more : {w : World} → Reach w → (j : ℕ) → w.sender.next + j ≤ 2 ^ 62 → w.sender.next + j ≤ base_of w.sender.acked + 2 ^ 31 → More w j
more {w} r zero p q =
    record { world = w; reach = r; receiver = refl; acked = refl; next = omega arith; keeps = λ x. x; adds = λ i x. absurd (omega arith) }
more {w} r (suc j) p q = one_more w j (omega arith) (omega arith) (more r j (omega arith) (omega arith))

-- ---- a packet that is near is accepted, then acknowledged, and the sender hears of it

pub record Accepted (w : World) (p : Packet) : Type 0 where
  pub world : World
  pub reach : Reach world
  pub sender : world.sender ≡ w.sender
  pub largest : world.receiver.largest ≡ larger_of w.receiver.largest p.number
  pub sent : world.sent ≡ w.sent
  pub accepted : Memᴰ p.number world.accepted

pub accept_it : {w : World} → Reach w → {p : Packet} → Memᴰ p w.sent → expected_of w.receiver.largest < p.number + 2 ^ (8 * p.carries.0 - 1) → Accepted w p
accept_it {w} r {p} m near =
    record {
      world = _;
      reach = next r (accepts m ((delivered r m).1 (inl near)) (taken r m));
      sender = refl;
      largest = refl;
      sent = refl;
      accepted = Memᴰ.head refl;
    }

pub record Heard (w : World) (n : ℕ) : Type 0 where
  pub before : World
  pub told : Reach before
  pub world : World
  pub step : LineStep before world
  pub same : before.sender ≡ w.sender
  pub sender : world.sender ≡ record { next = w.sender.next; acked = larger_of w.sender.acked n; largest = w.sender.largest }
  pub receiver : world.receiver ≡ w.receiver
  pub sent : world.sent ≡ w.sent

pub hear_it : {w : World} → Reach w → {n : ℕ} → Memᴰ n w.accepted → Heard w n
hear_it {w} r {n} m =
    let t = next r (acknowledges m) in
    record {
      before = _;
      told = t;
      world = _;
      step = hears (Memᴰ.head refl) (heard t (Memᴰ.head refl));
      same = refl;
      sender = refl;
      receiver = refl;
      sent = refl;
    }

-- ---- numbers that are sent, accepted and heard of one by one

-- what was not sent is not accepted
not_past : {w : World} → Reach w → expected_of w.receiver.largest ≤ w.sender.next
unfolding expected_of
not_past {w} r = go w.receiver.largest (largest_in r)
  where
    go : (s : SoFar) → LargestIn s w.accepted → expected_of s ≤ w.sender.next
    go none e = omega arith
    go (at m) (has, all) = omega (arith, ((inv r).accepted has).counted)

-- a number from the expected one on is the largest
larger_is : (s : SoFar) (n : ℕ) → expected_of s ≤ n → larger_of s n ≡ at n
unfolding expected_of larger_of
larger_is none n p = refl
larger_is (at m) n p = simp (lt-ltb m n (omega arith))

-- a world after w: n is the number that was sent last, and it was accepted and heard of
pub record Paced (w : World) (n : ℕ) : Type 0 where
  pub world : World
  pub reach : Reach world
  pub next : world.sender.next ≡ n + 1
  pub acked : world.sender.acked ≡ at n
  pub largest : world.receiver.largest ≡ at n
  pub keeps : {p : Packet} → Memᴰ p w.sent → Memᴰ p world.sent

one_round : {w : World} → Reach w → w.sender.next < 2 ^ 62 → w.sender.next < base_of w.sender.acked + 2 ^ 31 → Paced w w.sender.next
one_round {w} r p q =
    let n : ℕ = w.sender.next in
    let m = (inv r).made in
    let s = next r (sends (send_packet w.sender m p q)) in
    let a = accept_it s (Memᴰ.head refl) (omega (arith, not_past r, one-le-pow (8 * bytes_for (2 * (n - base_of w.sender.acked)) - 1) 2 (omega arith))) in
    let h = hear_it a.reach a.accepted in
    let e = h.sender ∙ ap (λ (e : Ends). record { next = e.next; acked = larger_of e.acked n; largest = e.largest }) a.sender in
    record {
      world = h.world;
      reach = next h.told h.step;
      next = ap (λ (e : Ends). e.next) e;
      acked = ap (λ (e : Ends). e.acked) e ∙ larger_is w.sender.acked n m.sent;
      largest = ap (λ (e : Ends). e.largest) h.receiver ∙ a.largest ∙ larger_is w.receiver.largest n (not_past r);
      keeps = λ x. rw (h.sent, a.sent) (Memᴰ.tail x);
    }

pub rounds : {w : World} → Reach w → (j : ℕ) → w.sender.next + j < 2 ^ 62 → w.sender.next < base_of w.sender.acked + 2 ^ 31 → Paced w (w.sender.next + j)
unfolding base_of
rounds {w} r zero p q =
    let e : w.sender.next + 0 ≡ w.sender.next = omega arith in
    rw e (one_round r (omega arith) q)
rounds {w} r (suc j) p q =
    let g = rounds r j (omega arith) q in
    let b : base_of g.world.sender.acked ≡ w.sender.next + j = ap base_of g.acked in
    let o = one_round g.reach (omega (arith, g.next)) (omega (arith, g.next, b)) in
    let e : g.world.sender.next ≡ w.sender.next + suc j = omega (arith, g.next) in
    record {
      world = o.world;
      reach = o.reach;
      next = omega (arith, o.next, e);
      acked = o.acked ∙ ap at e;
      largest = o.largest ∙ ap at e;
      keeps = λ x. o.keeps (g.keeps x);
    }

-- from the start, up to any number
pub up_to : (n : ℕ) → n < 2 ^ 62 → Paced fresh_world n
unfolding base_of
up_to n p = let e : 0 + n ≡ n = omega arith in rw e at (rounds start n (omega arith) (omega arith))

pub heard_all : {w : World} {n : ℕ} (g : Paced w n) → g.world.sender.next ≤ base_of g.world.sender.acked + 1
unfolding base_of
heard_all g = let b = ap base_of g.acked in omega (arith, g.next, b)
