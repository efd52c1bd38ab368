-- Laws of the scan.
use Rattle.std.specs.Prelude.{if◌then◌else◌, Result, Ok}
use Rattle.std.specs.Result.{IsErr, IsErrAnd}
use mathlib.Core.Path.{◌≡◌, refl, sym, ap}
use mathlib.Core.List.{List}
use mathlib.Core.Bool.{Bool, true, false}
use Prim.Native.Nat.{ℕ, zero, suc, ◌+◌, ◌-◌, ◌≤◌, ◌<◌, ◌^◌}
use native.Mathlib.Omega.{arith}
use lib.Dec.{ltb}
use lib.ListN.{length}
use borrow.Author.Tests.{ltb-false, lt-leb, le-ltb}
use Rattle.coding.specs.Words.{Got, cut, got, and_then, Answer, no, ok}
use Rattle.coding.specs.Refusals.{number_of}
use Rattle.coding.specs.Varint.{var_at}
use Rattle.coding.proofs.Laws.{var_inside}
use Rattle.coding.proofs.Rules.{if_all, then_all}
use Rattle.coding.specs.declared.refusal.Refusal.{Refusal}
use Rattle.ack.specs.Scan.{rounds, scan_at, scanned}
use Rattle.ack.specs.Step.{unmoved}
use Rattle.ack.specs.Said.{round_then, tried_of}
use Rattle.ack.specs.declared.AckTaken.{AckTaken}
use Rattle.ack.proofs.Tries.{out}

-- the exit of a `?` in a round, and in a step
pub exit_round : (r : Result ℕ Refusal) (why : Refusal) (next : ℕ) (more : ℕ → ℕ → Answer ℕ) → IsErr r × IsErrAnd r (λ e. e ≡ why) → round_then r next more ≡ no (number_of why)
unfolding round_then
exit_round r why next more i = rw (out r why i)

pub exit_tried : (r : Result AckTaken Refusal) (why : Refusal) (at largest : ℕ) → IsErr r × IsErrAnd r (λ e. e ≡ why) → tried_of r at largest ≡ unmoved (number_of why) at largest
unfolding tried_of
exit_tried r why at largest i = rw (out r why i)

pub none : (s : List ℕ) (n at smallest : ℕ) → n ≤ 0 → rounds s n at smallest ≡ ok at
unfolding rounds
none s zero at smallest h = refl
none s (suc n) at smallest h = absurd (omega arith)

-- ---- what a scan that was not refused has read

pub record Went (m : Got ℕ) (f : ℕ → ℕ → Answer ℕ) (e : ℕ) : Type 0 where
  pub value : ℕ
  pub next : ℕ
  pub read : m ≡ got value next
  pub more : f value next ≡ ok e

pub then_ok : (m : Got ℕ) (k : ℕ) (f : ℕ → ℕ → Answer ℕ) (e : ℕ) → and_then m (no k) f ≡ ok e → Went m f e
unfolding and_then
then_ok cut k f e h = cc
then_ok (got v n) k f e h = record { value = v; next = n; read = refl; more = h }

pub if_ok : (a b k : ℕ) (x : Answer ℕ) (e : ℕ) → (if ltb a b then no k else x) ≡ ok e → (b ≤ a) × (x ≡ ok e)
if_ok a b k x e = go (ltb a b) refl
  where
    go : (t : Bool) → ltb a b ≡ t → (if t then no k else x) ≡ ok e → (b ≤ a) × (x ≡ ok e)
    go true q h = cc
    go false q h = (ltb-false _ _ q, h)

-- a round that is not refused ends past its start and inside
pub round_past : (s : List ℕ) (at smallest : ℕ) (r : Result ℕ Refusal) (next : ℕ)
    → ((n : ℕ) → round_then r next (rounds s n) ≡ rounds s (suc n) at smallest) → (low : ℕ) → r ≡ Ok low → (at < next) × (next ≤ length s)
unfolding round_then rounds
round_past s at smallest r next e low q =
    let a = then_ok (var_at s at) 10 _ next (sym (rw q at (e 0))) in
    let b = if_ok smallest (a.value + 2) 12 _ next a.more in
    let c = then_ok (var_at s a.next) 10 _ next b.1 in
    let d = if_ok (smallest - (a.value + 2)) c.value 12 _ next c.more in
    let l : c.next ≡ next = cc in
    let i = var_inside s at a.value a.next a.read in
    let j = var_inside s a.next c.value c.next c.read in
    (omega arith, omega arith)

-- a round more than what is left of n behind the next one is what is left of n
pub rounds_left : (s : List ℕ) (n i at smallest : ℕ) → i < n → rounds s (suc (n - (i + 1))) at smallest ≡ rounds s (n - i) at smallest
rounds_left s n i at smallest h = let l : suc (n - (i + 1)) ≡ n - i = omega arith in ap (λ (k : ℕ). rounds s k at smallest) l

-- within the arguments' rule nothing is refused 14
pub in_rule : (s : List ℕ) (at largest n : ℕ) → length s ≤ 65527 → largest < 2 ^ 62 → n < 2 ^ 62 → scanned s at largest n ≡ scan_at s at largest n
unfolding scanned
in_rule s at largest n short h k = simp (le-ltb _ _ short, lt-leb _ _ h, lt-leb _ _ k)

-- ---- where the scan ends: at or past a place, and inside the list

abbrev pub Inside : List ℕ → ℕ → Answer ℕ → Type 0
Inside s at (ok n) = (at ≤ n) × (n ≤ length s)
Inside s at (no k) = Unit

pub rounds_inside : (s : List ℕ) (start n at smallest : ℕ) → start ≤ at → at ≤ length s → Inside s start (rounds s n at smallest)
unfolding rounds
rounds_inside s start zero at smallest h k = (h, k)
rounds_inside s start (suc n) at smallest h k =
    then_all (Inside s start) (var_at s at) _ _ (λ _. tt) (λ gap mid e.
    if_all (Inside s start) (ltb smallest (gap + 2)) _ _ (λ _. tt) (λ _.
    then_all (Inside s start) (var_at s mid) _ _ (λ _. tt) (λ block past f.
    if_all (Inside s start) (ltb (smallest - (gap + 2)) block) _ _ (λ _. tt) (λ _.
    let i = var_inside s at gap mid e in
    let j = var_inside s mid block past f in
    rounds_inside s start n past (smallest - (gap + 2) - block) (omega arith) (omega arith)))))

pub scan_inside : (s : List ℕ) (at largest n : ℕ) → Inside s at (scan_at s at largest n)
unfolding scan_at
scan_inside s at largest n =
    then_all (Inside s at) (var_at s at) _ _ (λ _. tt) (λ first after e.
    if_all (Inside s at) (ltb largest first) _ _ (λ _. tt) (λ _.
    let i = var_inside s at first after e in
    rounds_inside s at n after (largest - first) (omega arith) (omega arith)))
