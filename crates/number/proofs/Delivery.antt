-- On any line that invents nothing, a packet is read as it was sent exactly when the largest accepted number is near, where that
-- number is low; from there on when it is near; and the model does what the letter says of its ends.
use Prim.Native.Nat.{ℕ, suc, ◌+◌, ◌-◌, ◌*◌, ◌%◌, ◌^◌, ◌≤◌, ◌<◌}
use mathlib.Core.Path.{◌≡◌, refl, sym, ap, ◌∙◌}
use mathlib.Core.List.Memᴰ
use mathlib.Core.List.{List, [], ◌∷◌, Memᴰ}
use mathlib.Core.Logic.{◌↔◌, inl, ⊎_elim}
use native.Mathlib.Omega.{arith}
use native.Mathlib.Numerals.{add-one}
use lib.ListN.{length}
use borrow.Author.Tests.{lt-ltb, le-ltb}
use Rattle.coding.specs.Words.{ok}
use Rattle.number.specs.Cutting.{window_of}
use Rattle.number.specs.Expanding.{decode_a3}
use Rattle.number.specs.Ends.{SoFar, none, at, base_of, expected_of, larger_of, Packet, done, acknowledge_by, read_by, accept_by}
use Rattle.number.specs.Line.{World, fresh_world, LineStep, Reach, AsSent, Near, Low, Delivery}
use Rattle.number.specs.Line.LineStep.{sends, accepts, acknowledges, hears}
use Rattle.number.specs.Line.Reach.{start, next}
use Rattle.number.proofs.Windows.{le?, Window, window_made}
use Rattle.number.proofs.Cuts.{CutIs, cut_kept}
use Rattle.number.proofs.Readings.{Readable, read_exactly, expanded_in}
use Rattle.number.proofs.Calls.{SendMade, send_yes, receive_yes, acknowledge_on, accept_on, send_is, acknowledge_is, accept_is, sent_made, acknowledged_made, larger}

-- ---- what holds in every world that is reached

-- a packet that was sent, e being what the receiver expects and m the number to send next: it was counted, and cut from a base that is not past e
pub record Cut (e m : ℕ) (p : Packet) : Type 0 where
  pub base : ℕ
  pub low : base ≤ e
  pub counted : p.number < m
  pub is : CutIs p.number base p.carries

-- a number that was accepted or acknowledged: it was sent, and is not past e
pub record Taken (e m n : ℕ) : Type 0 where
  pub low : n ≤ e
  pub counted : n < m

pub record Inv (w : World) : Type 0 where
  pub made : SendMade w.sender
  pub top : expected_of w.receiver.largest ≤ 2 ^ 62
  pub base : base_of w.sender.acked ≤ expected_of w.receiver.largest
  pub sent : {p : Packet} → Memᴰ p w.sent → Cut (expected_of w.receiver.largest) w.sender.next p
  pub accepted : {n : ℕ} → Memᴰ n w.accepted → Taken (expected_of w.receiver.largest) w.sender.next n
  pub acks : {n : ℕ} → Memᴰ n w.acks → Taken (expected_of w.receiver.largest) w.sender.next n

cut_on : {d e m n : ℕ} {p : Packet} → d ≤ e → m ≤ n → Cut d m p → Cut e n p
cut_on h k c = record { base = c.base; low = omega arith; counted = omega arith; is = c.is }

taken_on : {d e m n i : ℕ} → d ≤ e → m ≤ n → Taken d m i → Taken e n i
taken_on h k t = record { low = omega arith; counted = omega arith }

inv_start : Inv fresh_world
unfolding expected_of base_of
inv_start =
    record {
      made = record { top = omega arith; sent = omega arith };
      top = omega arith;
      base = omega arith;
      sent = λ m. absurd (Memᴰ.not-nil m);
      accepted = λ m. absurd (Memᴰ.not-nil m);
      acks = λ m. absurd (Memᴰ.not-nil m);
    }

inv_step : {w v : World} → Inv w → LineStep w v → Inv v
inv_step {w} i (sends {p} {e} q) =
    let x = send_is w.sender q in
    let n : ℕ = w.sender.next in
    let up : n ≤ n + 1 = omega arith in
    let same : expected_of w.receiver.largest ≤ expected_of w.receiver.largest = omega arith in
    rw x.end
    (record {
      made = rw x.end at (sent_made x);
      top = i.top;
      base = i.base;
      sent =
          λ {p} m.
          ⊎_elim
          (λ y.
          rw y
          (record { base = base_of w.sender.acked; low = i.base; counted = omega (arith, x.number); is = rw x.number x.cut }))
          (λ y. cut_on same up (i.sent y))
          (Memᴰ.cases_cons m);
      accepted = λ m. taken_on same up (i.accepted m);
      acks = λ m. taken_on same up (i.acks m);
    })
inv_step {w} i (accepts {p} {e} m read q) =
    let x = accept_is w.receiver p.number q in
    let up = larger w.receiver.largest p.number in
    let n : ℕ = w.sender.next in
    let same : n ≤ n = omega arith in
    rw x.end
    (record {
      made = i.made;
      top = up.within i.top (omega (arith, x.top));
      base = omega (arith, i.base, up.keeps);
      sent = λ y. cut_on up.keeps same (i.sent y);
      accepted =
          λ {n} y.
          ⊎_elim
          (λ z. rw z (record { low = omega (arith, up.covers); counted = (i.sent m).counted }))
          (λ z. taken_on up.keeps same (i.accepted z))
          (Memᴰ.cases_cons y);
      acks = λ y. taken_on up.keeps same (i.acks y);
    })
inv_step i (acknowledges m) =
    record {
      made = i.made;
      top = i.top;
      base = i.base;
      sent = i.sent;
      accepted = i.accepted;
      acks = λ {n} y. ⊎_elim (λ z. rw z (i.accepted m)) i.acks (Memᴰ.cases_cons y);
    }
inv_step {w} i (hears {n} {e} m q) =
    let x = acknowledge_is w.sender n q in
    let up = larger w.sender.acked n in
    rw x.end
    (record {
      made = rw x.end at (acknowledged_made x);
      top = i.top;
      base = up.base i.base (i.acks m).low;
      sent = i.sent;
      accepted = i.accepted;
      acks = i.acks;
    })

pub inv : {w : World} → Reach w → Inv w
inv start = inv_start
inv (next r s) = inv_step (inv r) s

-- ---- the receiver's largest is the largest of the numbers that it accepted; it has none exactly where none was accepted

abbrev pub LargestIn : SoFar → List ℕ → Type 0
LargestIn none l = l ≡ []
LargestIn (at m) l = Memᴰ m l × ((n : ℕ) → Memᴰ n l → n ≤ m)

not_in : {n : ℕ} {l : List ℕ} → l ≡ [] → Memᴰ n l → ⊥
not_in e m = Memᴰ.not-nil (rw e at m)

larger_in : (s : SoFar) (n : ℕ) (l : List ℕ) → LargestIn s l → LargestIn (larger_of s n) (n ∷ l)
unfolding larger_of
larger_in none n l e = (Memᴰ.head refl, λ i x. ⊎_elim (λ y. omega (arith, y)) (λ y. absurd (not_in e y)) (Memᴰ.cases_cons x))
larger_in (at m) n l (has, all) = ⊎_elim stays grows (le? n m)
  where
    stays : n ≤ m → LargestIn (larger_of (at m) n) (n ∷ l)
    stays p = rw (le-ltb m n p) (Memᴰ.tail has, λ i x. ⊎_elim (λ y. omega (arith, y)) (λ y. all i y) (Memᴰ.cases_cons x))

    grows : m < n → LargestIn (larger_of (at m) n) (n ∷ l)
    grows p = rw (lt-ltb m n p) (Memᴰ.head refl, λ i x. ⊎_elim (λ y. omega (arith, y)) (λ y. omega (arith, all i y)) (Memᴰ.cases_cons x))

pub largest_in : {w : World} → Reach w → LargestIn w.receiver.largest w.accepted
largest_in start = refl
largest_in (next r (sends q)) = largest_in r
largest_in (next {w} r (accepts {p} {e} m read q)) =
    rw (accept_is w.receiver p.number q).end (larger_in w.receiver.largest p.number w.accepted (largest_in r))
largest_in (next r (acknowledges m)) = largest_in r
largest_in (next r (hears m q)) = largest_in r

-- ---- the theorem

-- near, as an order on what the receiver expects
near_is : (s : SoFar) (l : List ℕ) → LargestIn s l → (n k : ℕ) → 128 ≤ 2 ^ (8 * k - 1) → Near l n k ↔ (expected_of s < n + 2 ^ (8 * k - 1))
unfolding Near expected_of
near_is none l e n k h = (λ x. omega arith, λ x m i. absurd (not_in e i))
near_is (at m) l (has, all) n k h = (λ x. omega (arith, x m has), λ x i y. omega (arith, all i y))

-- low, as one too
low_is : (s : SoFar) (l : List ℕ) → LargestIn s l → (k : ℕ) → Window k → Low l k → expected_of s + 2 ^ (8 * k - 1) < 2 ^ 62
unfolding Low expected_of
low_is none l e k win x = omega (arith, win)
low_is (at m) l (has, all) k win x = omega (arith, x m has)

-- what is read of a packet that was sent: it is never refused
pub reads : {w : World} → Reach w → {p : Packet} → Memᴰ p w.sent
    → ok (decode_a3 (window_of p.carries.0) (p.number % window_of p.carries.0) (expected_of w.receiver.largest)) ≡ read_by w.receiver p.carries
unfolding read_by
reads {w} r {p} m =
    let i = inv r in
    let c = i.sent m in
    let e : ℕ = expected_of w.receiver.largest in
    ap (λ (v : ℕ). ok (decode_a3 (window_of p.carries.0) v e)) (sym c.is.value) ∙ expanded_in p.carries e (cut_kept c.is) i.top

-- the window of a packet that was sent
window_sent : {w : World} → Reach w → {p : Packet} → Memᴰ p w.sent → Window p.carries.0
window_sent r m = let f = ((inv r).sent m).is.fit in window_made _ f.from f.high

-- by what the receiver expects
pub delivered : {w : World} → Reach w → {p : Packet} → Memᴰ p w.sent
    → AsSent w p ↔ Readable (window_of p.carries.0) (2 ^ (8 * p.carries.0 - 1)) p.number (expected_of w.receiver.largest)
delivered {w} r {p} m = (λ q. exactly.0 (same q), λ x. sym (reads r m) ∙ ap (λ (y : ℕ). ok y) (exactly.1 x))
  where
    n : ℕ
    n = p.number

    k : ℕ
    k = p.carries.0

    e : ℕ
    e = expected_of w.receiver.largest

    c : Cut e w.sender.next p
    c = (inv r).sent m

    win : Window k
    win = window_sent r m

    exactly : (decode_a3 (window_of k) (n % window_of k) e ≡ n) ↔ Readable (window_of k) (2 ^ (8 * k - 1)) n e
    exactly =
        read_exactly (window_of k) (2 ^ (8 * k - 1)) n e win.twice (omega (arith, win)) (2 ^ (62 - 8 * k)) win.whole
        (omega (arith, c.is.top))
        (inv r).top
        (omega (arith, win, c.is.fit.above, c.low, c.is.down))

    same : AsSent w p → decode_a3 (window_of k) (n % window_of k) e ≡ n
    same q = let s : ok (decode_a3 (window_of k) (n % window_of k) e) ≡ ok n = reads r m ∙ q in cc

pub delivery : Delivery
delivery w r p m = (λ low. (λ q. near.1 (forth low ((delivered r m).0 q)), back), back)
  where
    n : ℕ
    n = p.number

    k : ℕ
    k = p.carries.0

    e : ℕ
    e = expected_of w.receiver.largest

    win : Window k
    win = window_sent r m

    near : Near w.accepted n k ↔ (e < n + 2 ^ (8 * k - 1))
    near = near_is w.receiver.largest w.accepted (largest_in r) n k win.least

    -- where the largest accepted number is low, a packet in the last window is near too
    forth : Low w.accepted k → Readable (window_of k) (2 ^ (8 * k - 1)) n e → e < n + 2 ^ (8 * k - 1)
    forth low = ⊎_elim (λ x. x) (λ x. omega (arith, win, low_is w.receiver.largest w.accepted (largest_in r) k win low, x))

    back : Near w.accepted n k → AsSent w p
    back q = (delivered r m).1 (inl (near.0 q))

-- ---- the sender counts 0, 1, 2, and so on: the latest packet has the number of those before it

abbrev pub Counted : List Packet → Type 0
Counted [] = Unit
Counted (p ∷ l) = (p.number ≡ length l) × Counted l

pub counted : {w : World} → Reach w → (w.sender.next ≡ length w.sent) × Counted w.sent
counted start = (refl, tt)
counted (next {w} r (sends {p} {e} q)) =
    let x = send_is w.sender q in
    let i = counted r in
    (rw x.end (add-one _ ∙ ap suc i.0), (x.number ∙ i.0, i.1))
counted (next r (accepts m read q)) = counted r
counted (next r (acknowledges m)) = counted r
counted (next {w} r (hears {n} {e} m q)) = rw (acknowledge_is w.sender n q).end (counted r)

-- ---- nothing on the line is refused

-- the sender hears every acknowledgement
pub heard : {w : World} → Reach w → {n : ℕ} → Memᴰ n w.acks
    → acknowledge_by w.sender n ≡ done tt (record { next = w.sender.next; acked = larger_of w.sender.acked n; largest = w.sender.largest })
heard {w} r {n} m =
    let i = inv r in
    sym (acknowledge_on w.sender n (send_yes w.sender i.made) (i.acks m).counted)

-- the receiver accepts every packet of the line, and so each that it read as it was sent
pub taken : {w : World} → Reach w → {p : Packet} → Memᴰ p w.sent
    → accept_by w.receiver p.number
    ≡ done tt (record { next = w.receiver.next; acked = w.receiver.acked; largest = larger_of w.receiver.largest p.number })
taken {w} r {p} m =
    let i = inv r in
    sym (accept_on w.receiver p.number (receive_yes w.receiver i.top) (i.sent m).is.top)
