-- Over what the scan took, stepping hands out exactly the scan's ranges, largest first, and ends.
use mathlib.Core.Path.{◌≡◌, refl, sym, ap, ◌∙◌}
use mathlib.Core.List.{List, [], ◌∷◌, ◌++◌, map}
use Prim.Native.Nat.{ℕ, zero, suc, ◌+◌, ◌-◌, ◌≤◌, ◌<◌, ◌^◌}
use native.Mathlib.Omega.{arith}
use lib.ListN.{length, take, drop, length-take, length-drop, take-append-drop}
use Rattle.coding.specs.Words.{Got, got, and_then, ok}
use Rattle.coding.specs.Varint.{var_at}
use Rattle.coding.specs.Places.{part_of}
use Rattle.coding.proofs.Laws.{var_inside, part_in}
use Rattle.coding.proofs.Rules.{choices}
use Rattle.coding.proofs.Shift.{further_got, var_behind, var_within}
use Rattle.ack.specs.Scan.{Range, rounds, scan_at, round_ranges, ranges_at}
use Rattle.ack.specs.Step.{Step, range, end, ack_step, go_on, stepping}
use Rattle.ack.proofs.Laws.{Inside, rounds_inside, scan_inside, then_ok, if_ok}

-- ---- what is read of a list is read of a part that holds it

module _ (s : List ℕ) (at len : ℕ) (inside : at + len ≤ length s) where
  abbrev part : List ℕ
  part = take len (drop at s)

  pub part_length : length part ≡ len
  part_length = simp (length-take, length-drop) (omega arith)

  var_part : (p v n : ℕ) → at ≤ p → n ≤ at + len → var_at s p ≡ got v n → var_at part (p - at) ≡ got v (n - at)
  var_part p v n h k e =
      let back : at + (p - at) ≡ p = omega arith in
      let all : part ++ drop len (drop at s) ≡ drop at s = take-append-drop len (drop at s) in
      let r : var_at (drop at s) (p - at) ≡ got v (n - at) = further_got at (var_at (drop at s) (p - at)) v n (sym (var_behind s at (p - at)) ∙ rw back e) in
      var_within part (drop len (drop at s)) (p - at) v (n - at) (rw part_length (omega arith)) (rw all r)

-- ---- the cases of a step

then_got : {A : Type 0} (x stop : A) (m : Got ℕ) (f : ℕ → ℕ → A) (v n : ℕ) → m ≡ got v n → x ≡ f v n → x ≡ and_then m stop f
unfolding and_then
then_got x stop m f v n e h = rw e h

abbrev one : ℕ → ℕ → Step
one smallest largest = range (record { smallest = smallest; largest = largest })

module _ (d : List ℕ) (i largest : ℕ) (short : length d ≤ 65527) (small : largest < 2 ^ 62) where
  at_end : length d ≤ i → record { step = end; largest = largest; next = i } ≡ ack_step d i largest
  unfolding ack_step
  at_end h = search choices

  module _ (block mid : ℕ) (e : var_at d i ≡ got block mid) (enough : block ≤ largest) (begun : i < length d) where
    at_last : length d ≤ mid → record { step = one (largest - block) largest; largest = largest; next = mid } ≡ ack_step d i largest
    unfolding ack_step
    at_last h = search (then_got, choices) depth 40 fits 4000

    at_more : (gap next : ℕ) → var_at d mid ≡ got gap next → gap + 2 ≤ largest - block → mid < length d → next < length d
        → record { step = one (largest - block) largest; largest = largest - block - (gap + 2); next = next } ≡ ack_step d i largest
    unfolding ack_step
    at_more gap next f h k l = search (then_got, choices) depth 40 fits 4000

-- one step, and those after it
step_on_law : (n : ℕ) (d : List ℕ) (i largest : ℕ) (r : Range) (next low : ℕ) → record { step = range r; largest = low; next = next } ≡ ack_step d i largest
    → stepping (suc n) d i largest ≡ range r ∷ stepping n d next low
unfolding stepping go_on
step_on_law n d i largest r next low e = rw (← e)

step_end : (n : ℕ) (d : List ℕ) (i largest low next : ℕ) → record { step = end; largest = low; next = next } ≡ ack_step d i largest
    → stepping (suc n) d i largest ≡ end ∷ []
unfolding stepping go_on
step_end n d i largest low next e = rw (← e)

-- ---- the ranges

pub round_range : (s : List ℕ) (n at low gap mid block past : ℕ) → var_at s at ≡ got gap mid → var_at s mid ≡ got block past
    → round_ranges s (suc n) at low
    ≡ record { smallest = low - (gap + 2) - block; largest = low - (gap + 2) } ∷ round_ranges s n past (low - (gap + 2) - block)
unfolding round_ranges and_then
round_range s n at low gap mid block past e f = rw (e, f)

module _ (s : List ℕ) (at len : ℕ) (inside : at + len ≤ length s) (short : len ≤ 65527) where
  abbrev blocks : List ℕ
  blocks = take len (drop at s)

  size : length blocks ≡ len
  size = part_length s at len inside

  few : length blocks ≤ 65527
  few = rw size short

  -- from the range on whose block stands at p, with n rounds after it
  ranges_from : (n k p largest block mid : ℕ) → n ≤ k → at ≤ p → largest < 2 ^ 62 → var_at s p ≡ got block mid → block ≤ largest
      → rounds s n mid (largest - block) ≡ ok (at + len)
      → stepping (suc (suc k)) blocks (p - at) largest ≡ one (largest - block) largest ∷ (map range (round_ranges s n mid (largest - block)) ++ (end ∷ []))
  unfolding rounds round_ranges
  ranges_from zero k p largest block mid h a small e enough r =
      let stop : mid ≡ at + len = cc in
      let i = var_inside s p block mid e in
      let d = var_part s at len inside p block mid a (omega arith) e in
      let begun : p - at < length blocks = rw size (omega arith) in
      let last : length blocks ≤ mid - at = rw size (omega arith) in
      step_on_law (suc k) blocks (p - at) largest _ _ _ (at_last blocks (p - at) largest few small block (mid - at) d enough begun last)
      ∙ ap (λ (l : List Step). one (largest - block) largest ∷ l) (step_end k blocks (mid - at) largest _ _ (at_end blocks (mid - at) largest few small last))
  ranges_from (suc n) zero p largest block mid h a small e enough r = absurd (omega arith)
  ranges_from (suc n) (suc k) p largest block mid h a small e enough r =
      let low : ℕ = largest - block in
      let g = then_ok (var_at s mid) 10 _ _ r in
      let gap : ℕ = g.value in
      let q : ℕ = g.next in
      let above = if_ok low (gap + 2) 12 _ _ g.more in
      let b = then_ok (var_at s q) 10 _ _ above.1 in
      let left = if_ok (low - (gap + 2)) b.value 12 _ _ b.more in
      let i = var_inside s p block mid e in
      let j = var_inside s mid gap q g.read in
      let k' = var_inside s q b.value b.next b.read in
      let z : Inside s b.next (ok (at + len)) = rw left.1 at (rounds_inside s b.next n b.next (low - (gap + 2) - b.value) (omega arith) k'.1) in
      let d = var_part s at len inside p block mid a (omega arith) e in
      let f = var_part s at len inside mid gap q (omega arith) (omega arith) g.read in
      let begun : p - at < length blocks = rw size (omega arith) in
      let on : mid - at < length blocks = rw size (omega arith) in
      let more : q - at < length blocks = rw size (omega arith) in
      let ih = ranges_from n k q (low - (gap + 2)) b.value b.next (omega arith) (omega arith) (omega arith) b.read left.0 left.1 in
      step_on_law (suc (suc k)) blocks (p - at) largest _ _ _
      (at_more blocks (p - at) largest few small block (mid - at) d enough begun gap (q - at) f above.0 on more)
      ∙ ap (λ (l : List Step). one low largest ∷ l)
      (ih ∙ ap (λ (rs : List Range). map range rs ++ (end ∷ [])) (sym (round_range s n mid low gap q b.value b.next g.read b.read)))

pub first_range : (s : List ℕ) (at largest n first after : ℕ) → var_at s at ≡ got first after
    → ranges_at s at largest n ≡ record { smallest = largest - first; largest = largest } ∷ round_ranges s n after (largest - first)
unfolding ranges_at and_then
first_range s at largest n first after e = rw e

-- the scan of n rounds ended at e: any number of steps past n over the part that it took says its ranges, and then the end
pub scan_ranges : (s : List ℕ) (at largest n e k : ℕ) → largest < 2 ^ 62 → scan_at s at largest n ≡ ok e → e - at ≤ 65527 → n ≤ k
    → stepping (suc (suc k)) (part_of s (record { start = at; len = e - at })) 0 largest ≡ map range (ranges_at s at largest n) ++ (end ∷ [])
unfolding scan_at
scan_ranges s at largest n e k small ok' short h =
    let f = then_ok (var_at s at) 10 _ _ ok' in
    let enough = if_ok largest f.value 12 _ _ f.more in
    let i : Inside s at (ok e) = rw ok' at (scan_inside s at largest n) in
    let stop : at + (e - at) ≡ e = omega arith in
    let zero' : at - at ≡ 0 = omega arith in
    let r = ranges_from s at (e - at) (omega arith) short n k at largest f.value f.next h (omega arith) small f.read enough.0 (enough.1 ∙ ap ok (sym stop)) in
    let all : take (e - at) (drop at s) ≡ part_of s (record { start = at; len = e - at }) = part_in s _ (e - at) refl (omega arith) in
    let first : ranges_at s at largest n ≡ record { smallest = largest - f.value; largest = largest } ∷ round_ranges s n f.next (largest - f.value) =
    first_range s at largest n f.value f.next f.read in
    ap (λ (l : List ℕ). stepping (suc (suc k)) l 0 largest) (sym all) ∙ ap (λ (p : ℕ). stepping (suc (suc k)) (take (e - at) (drop at s)) p largest) (sym zero') ∙ r
    ∙ ap (λ (rs : List Range). map range rs ++ (end ∷ [])) (sym first)
