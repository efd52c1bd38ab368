-- Runs of the model, so that it is not empty: for every length a packet that is read as it was sent, and one that is misread; at the
-- ceiling one that is read as it was sent though it is not near; and an acknowledgement that shortens the next cut.
use Prim.Native.Nat.{ℕ, suc, ◌+◌, ◌-◌, ◌*◌, ◌/◌, ◌^◌, ◌≤◌, ◌<◌}
use mathlib.Core.Path.{◌≡◌, refl, sym, ap, ◌∙◌}
use mathlib.Core.List.Memᴰ
use mathlib.Core.List.{[], ◌∷◌, Memᴰ}
use mathlib.Core.Logic.{inl, inr, ⊎_elim}
use native.Mathlib.Nat.{two-pow-succ, one-le-pow}
use native.Mathlib.Omega.{arith}
use lib.Pow.{pow_mono}
use Rattle.coding.specs.Words.{ok}
use Rattle.number.specs.Cutting.{cut, window_of, bytes_for}
use Rattle.number.specs.Ends.{SoFar, none, at, Ends, base_of, expected_of, larger_of, Call, Packet, send_by, read_by}
use Rattle.number.specs.Line.{World, fresh_world, LineStep, Reach, AsSent, Near, Low}
use Rattle.number.specs.Line.Reach.{start, next}
use Rattle.number.proofs.Windows.{Window, window_made, bytes_are}
use Rattle.number.proofs.Calls.{SendMade}
use Rattle.number.proofs.Going.{packet, base_le, send_packet, Paced, More, more, Accepted, accept_it, Heard, hear_it, rounds, up_to, heard_all}
use Rattle.number.proofs.Delivery.{inv, LargestIn, largest_in, reads, delivered}

-- ---- for every length a packet, and numbers that overtake it

-- a world that is reached, with a packet of k bytes that was sent, of which the claim holds
pub record Shown (k : ℕ) (claim : World → Packet → Type 0) : Type 0 where
  pub world : World
  pub reach : Reach world
  pub packet : Packet
  pub sent : Memᴰ packet world.sent
  pub takes : packet.carries.0 ≡ k
  pub so : claim world packet

-- of that world and packet, another claim
claims : {k : ℕ} {a b : World → Packet → Type 0} (s : Shown k a) → b s.world s.packet → Shown k b
claims s so = record { world = s.world; reach = s.reach; packet = s.packet; sent = s.sent; takes = s.takes; so = so }

-- the first distance from the largest acknowledged that takes k bytes
abbrev pub least : ℕ → ℕ
least k = 2 ^ (8 * (k - 1)) / 2

least_small : (k : ℕ) → Window k → least k ≤ 2 ^ 23
least_small k win = omega (arith, pow_mono {i = 8 * (k - 1)} {j = 24} (omega (arith, win)))

-- and so does the next
least_takes : (k d : ℕ) → Window k → least k ≤ d → d ≤ least k + 1 → bytes_for (2 * d) ≡ k
least_takes k d win p q =
    bytes_are k (2 * d) win.low win.high
    (omega (arith, win, pow_mono {i = 8 * (k - 1)} {j = 8 * k - 1} (omega (arith, win))))
    (λ j x y.
    let e : 8 * (k - 1) ≡ suc (8 * (k - 1) - 1) = omega arith in
    let t : 2 ^ (8 * (k - 1)) ≡ 2 ^ (8 * (k - 1) - 1) + 2 ^ (8 * (k - 1) - 1) = ap (λ (m : ℕ). 2 ^ m) e ∙ two-pow-succ (8 * (k - 1) - 1) in
    omega (arith, t, pow_mono {i = 8 * j} {j = 8 * (k - 1)} (omega arith)))

-- the packet with number n is sent last after w, and the receiver is as it was
pub record Latest (w : World) (n : ℕ) (v : World) (p : Packet) : Type 0 where
  pub number : p.number ≡ n
  pub next : v.sender.next ≡ n + 1
  pub acked : v.sender.acked ≡ w.sender.acked
  pub receiver : v.receiver ≡ w.receiver

-- n is the number of the packet, and d numbers overtook it: the last was accepted
pub record Passed (n d : ℕ) (v : World) (p : Packet) : Type 0 where
  pub number : p.number ≡ n
  pub largest : v.receiver.largest ≡ at (n + d)

passed_by : {w : World} {k n d : ℕ} (s : Shown k (Latest w n)) {m : ℕ} → Paced s.world m → m ≡ n + d → Shown k (Passed n d)
passed_by s g e =
    record {
      world = g.world;
      reach = g.reach;
      packet = s.packet;
      sent = g.keeps s.sent;
      takes = s.takes;
      so = record { number = s.so.number; largest = g.largest ∙ ap at e };
    }

-- a world of which the sender is no more than a number past what it heard of
module _ {w : World} (r : Reach w) (heard-of : w.sender.next ≤ base_of w.sender.acked + 1) (k : ℕ) (win : Window k) where
  -- the packet's number
  abbrev later : ℕ
  later = w.sender.next + least k

  latest_by : More w (least k + 1) → Shown k (Latest w later)
  latest_by a =
      let b : ℕ = base_of w.sender.acked in
      let low : b ≤ w.sender.next = omega (arith, (inv r).made.sent, base_le w.sender.acked) in
      record {
        world = a.world;
        reach = a.reach;
        packet = packet b later;
        sent = a.adds (least k) (omega arith);
        takes = least_takes k (later - b) win (omega arith) (omega arith);
        so = record { number = refl; next = omega (arith, a.next); acked = a.acked; receiver = a.receiver };
      }

  pub latest : later < 2 ^ 62 → Shown k (Latest w later)
  latest top = latest_by (more r (least k + 1) (omega arith) (omega (arith, least_small k win)))

  pub passed : (d : ℕ) → 1 ≤ d → later + d < 2 ^ 62 → Shown k (Passed later d)
  passed d pos top = go (latest (omega arith))
    where
      go : Shown k (Latest w later) → Shown k (Passed later d)
      go s =
          let b : base_of s.world.sender.acked ≡ base_of w.sender.acked = ap base_of s.so.acked in
          let n = s.so.next in
          passed_by s (rounds s.reach (d - 1) (omega (arith, n)) (omega (arith, n, b, least_small k win))) (omega (arith, n))

-- ---- both ways, for every length

-- it is read as another number
pub record Misread (w : World) (p : Packet) : Type 0 where
  pub other : ℕ
  pub reads : read_by w.receiver p.carries ≡ ok other
  pub differs : other ≡ p.number → ⊥

-- half a window further on, far below 2^62
misread : {w : World} → Reach w → {p : Packet} → Memᴰ p w.sent → (k : ℕ) → Window k → p.carries.0 ≡ k → {n : ℕ} → n ≤ 2 ^ 23
    → Passed n (2 ^ (8 * k - 1) - 1) w p
    → Misread w p
unfolding expected_of
misread {w} r {p} m k win takes low so =
    let is = sym (reads r m) in
    let e = ap expected_of so.largest in
    record {
      other = _;
      reads = is;
      differs =
          λ same.
          ⊎_elim
          (λ x. let y : expected_of w.receiver.largest < p.number + 2 ^ (8 * k - 1) = rw takes at x in omega (arith, win, e, so.number, y))
          (λ x. let y : 2 ^ 62 ≤ p.number + window_of k = rw takes at x.1 in omega (arith, win, so.number, y))
          ((delivered r m).0 (is ∙ ap ok same));
    }

-- where nothing is accepted yet, every packet is near
nothing_yet : {l : SoFar} → l ≡ none → (n j : ℕ) → expected_of l < n + 2 ^ j
unfolding expected_of
nothing_yet e n j = rw e (omega (arith, one-le-pow j 2 (omega arith)))

-- a fresh sender heard of nothing, and has sent nothing
fresh_heard : fresh_world.sender.next ≤ base_of fresh_world.sender.acked + 1
fresh_heard = omega arith

-- nothing is accepted yet, and it is read as it was sent
rightly : {k n : ℕ} → Shown k (Latest fresh_world n) → Shown k AsSent
rightly s = claims s ((delivered s.reach s.sent).1 (inl (nothing_yet (ap (λ (e : Ends). e.largest) s.so.receiver) _ _)))

pub runs_rightly : (k : ℕ) → 1 ≤ k → k ≤ 4 → Shown k AsSent
runs_rightly k p q = let win = window_made k p q in rightly (latest start fresh_heard k win (omega (arith, least_small k win)))

-- a fresh world, and d numbers that overtake the packet
fresh_passed : (k : ℕ) → Window k → (d : ℕ) → 1 ≤ d → d ≤ 2 ^ 31 → Shown k (Passed (0 + least k) d)
fresh_passed k win d low high = passed start fresh_heard k win d low (omega (arith, least_small k win))

-- up to this distance it is near, and read as it was sent
abbrev pub NearBy : ℕ → World → Packet → Type 0
NearBy k w p = (w.receiver.largest ≡ at (p.number + (2 ^ (8 * k - 1) - 2))) × AsSent w p

near_by : {k n : ℕ} → Window k → Shown k (Passed n (2 ^ (8 * k - 1) - 2)) → Shown k (NearBy k)
unfolding expected_of
near_by win s =
    let e = ap expected_of s.so.largest in
    claims s (
      s.so.largest ∙ ap at (omega (arith, s.so.number)),
      (delivered s.reach s.sent).1 (inl (rw s.takes (omega (arith, win, e, s.so.number)))),
    )

pub runs_near : (k : ℕ) → 1 ≤ k → k ≤ 4 → Shown k (NearBy k)
runs_near k p q = let win = window_made k p q in near_by win (fresh_passed k win _ (omega (arith, win)) (omega (arith, win)))

-- a number further it is misread
abbrev pub FurtherOn : ℕ → World → Packet → Type 0
FurtherOn k w p = (w.receiver.largest ≡ at (p.number + (2 ^ (8 * k - 1) - 1))) × Misread w p

further_on : {k n : ℕ} → Window k → n ≤ 2 ^ 23 → Shown k (Passed n (2 ^ (8 * k - 1) - 1)) → Shown k (FurtherOn k)
further_on {k} win low s = claims s (s.so.largest ∙ ap at (omega (arith, s.so.number)), misread s.reach s.sent k win s.takes low s.so)

pub runs_misread : (k : ℕ) → 1 ≤ k → k ≤ 4 → Shown k (FurtherOn k)
runs_misread k p q =
    let win = window_made k p q in
    further_on win (omega (arith, least_small k win)) (fresh_passed k win _ (omega (arith, win)) (omega (arith, win)))

-- ---- the bound of the third demand is the last: once the largest accepted number is there, a packet that is not near can be read as it was sent

pub record Overtaken (k : ℕ) (w : World) (p : Packet) : Type 0 where
  pub largest : w.receiver.largest ≡ at (2 ^ 62 - 2 ^ (8 * k - 1) - 1)
  -- it is the first number that is not low
  pub high : Low w.accepted k → ⊥
  pub last_low : Low ((2 ^ 62 - 2 ^ (8 * k - 1) - 2) ∷ []) k
  pub far : Near w.accepted p.number k → ⊥
  pub rightly : AsSent w p

-- of a packet with the first number of the last window
overtaken_by : {w : World} → Reach w → {p : Packet} → Memᴰ p w.sent → (k : ℕ) → Window k → p.carries.0 ≡ k → p.number + window_of k ≡ 2 ^ 62
    → w.receiver.largest ≡ at (2 ^ 62 - 2 ^ (8 * k - 1) - 1)
    → Overtaken k w p
unfolding expected_of Near Low
overtaken_by {w} r {p} m k win takes n l =
    let e = ap expected_of l in
    let i : LargestIn (at (2 ^ 62 - 2 ^ (8 * k - 1) - 1)) w.accepted = rw l at (largest_in r) in
    record {
      largest = l;
      high = λ low. omega (arith, win, low _ i.0);
      last_low = λ m x. ⊎_elim (λ y. omega (arith, win, y)) (λ y. absurd (Memᴰ.not-nil y)) (Memᴰ.cases_cons x);
      far = λ near. omega (arith, win, n, near _ i.0);
      rightly = (delivered r m).1 (inr (omega (arith, win, e), rw takes (omega (arith, n))));
    }

overtaken_shown : {k n : ℕ} → Window k → n + window_of k ≡ 2 ^ 62 → Shown k (Passed n (2 ^ (8 * k - 1) - 1)) → Shown k (Overtaken k)
overtaken_shown {k} win end s =
    claims s (overtaken_by s.reach s.sent k win s.takes (omega (arith, end, s.so.number)) (s.so.largest ∙ ap at (omega (arith, win, end))))

-- the first number of the last window below 2^62, and half a window of numbers that overtake it
pub runs_overtaken : (k : ℕ) → 1 ≤ k → k ≤ 4 → Shown k (Overtaken k)
runs_overtaken k p q = go (window_made k p q) (2 ^ 62 - window_of k - least k - 1) refl
  where
    up : Window k → {m : ℕ} → m ≡ 2 ^ 62 - window_of k - least k - 1 → Paced fresh_world m → Shown k (Overtaken k)
    up win is g =
        let small = least_small k win in
        overtaken_shown win (omega (arith, win, small, g.next))
        (passed g.reach (heard_all g) k win _ (omega (arith, win)) (omega (arith, win, small, g.next)))

    go : Window k → (m : ℕ) → m ≡ 2 ^ 62 - window_of k - least k - 1 → Shown k (Overtaken k)
    go win m is = up win is (up_to m (omega (arith, win)))

-- ---- an acknowledgement shortens the next cut

pub record Shortens : Type 0 where
  pub before : World
  pub reach : Reach before
  pub after : World
  pub step : LineStep before after
  pub two : (send_by before.sender).says ≡ ok (record { number = 128; carries = cut 2 128 })
  pub one : (send_by after.sender).says ≡ ok (record { number = 128; carries = cut 1 128 })

-- 128 packets are sent, and the last is accepted; 128 takes two bytes before the sender hears of it, and one afterwards
few : More fresh_world 128
unfolding base_of
few = more start 128 (omega arith) (omega arith)

few_taken : Accepted few.world (packet 0 127)
unfolding base_of
few_taken =
    let n : few.world.receiver.largest ≡ none = ap (λ (e : Ends). e.largest) few.receiver in
    accept_it few.reach (few.adds 127 (omega arith)) (nothing_yet n _ _)

few_heard : Heard few_taken.world 127
few_heard = hear_it few_taken.reach few_taken.accepted

says_next : (e : Ends) → SendMade e → (l : SoFar) → e.next ≡ 128 → e.acked ≡ l → 128 < base_of l + 2 ^ 31 → (send_by e).says ≡ ok (packet (base_of l) 128)
says_next e m l p q r =
    let b : base_of e.acked ≡ base_of l = ap base_of q in
    ap (λ (c : Call Packet). c.says) (send_packet e m (omega (arith, p)) (omega (arith, p, b))) ∙ rw (p, b)

pub runs_shorter : Shortens
unfolding base_of larger_of bytes_for window_of
runs_shorter =
    let h = few_heard in
    let n : h.before.sender.next ≡ 128 = ap (λ (e : Ends). e.next) (h.same ∙ few_taken.sender) ∙ few.next in
    let a : h.before.sender.acked ≡ none = ap (λ (e : Ends). e.acked) (h.same ∙ few_taken.sender) ∙ few.acked in
    let m : h.world.sender.next ≡ 128 = ap (λ (e : Ends). e.next) h.sender ∙ ap (λ (e : Ends). e.next) few_taken.sender ∙ few.next in
    let b : h.world.sender.acked ≡ at 127 =
    ap (λ (e : Ends). e.acked) h.sender ∙ ap (λ (e : Ends). larger_of e.acked 127) few_taken.sender ∙ ap (λ (l : SoFar). larger_of l 127) few.acked in
    record {
      before = h.before;
      reach = h.told;
      after = h.world;
      step = h.step;
      two = says_next h.before.sender (inv h.told).made none n a (omega arith);
      one = says_next h.world.sender (inv (next h.told h.step)).made (at 127) m b (omega arith);
    }
