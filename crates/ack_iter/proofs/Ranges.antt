-- A reader over the bytes that are left says what steps over the whole slice say: so over what the scan took it hands out exactly the scan's ranges, largest first, and ends.
use Rattle.std.specs.Prelude.{if◌then◌else◌}
use mathlib.Core.Path.{◌≡◌, refl, sym, ap, ◌∙◌}
use mathlib.Core.Bool.{Bool, true, false}
use mathlib.Core.List.{List, [], ◌∷◌, ◌++◌, map}
use Prim.Native.Nat.{ℕ, zero, suc, ◌+◌, ◌-◌, ◌≤◌, ◌<◌, ◌^◌}
use native.Mathlib.Nat.{add-zero}
use native.Mathlib.Omega.{arith}
use lib.Dec.{ltb, leb}
use lib.ListN.{length, drop, get_or, length-drop}
use lib.Seq.{drop-drop}
use borrow.Author.Tests.{le-ltb, le-leb, lt-leb, leb-true, leb-false}
use Rattle.coding.specs.Words.{Got, cut, got, and_then, ok, number_end, max_datagram}
use Rattle.coding.specs.Places.{part_of}
use Rattle.coding.specs.Varint.{var_at}
use Rattle.coding.proofs.Laws.{part_in}
use Rattle.coding.proofs.Shift.{further, var_behind}
use Rattle.ack.specs.Scan.{scan_at, ranges_at}
use Rattle.ack.specs.Step.{Step, range, end, refused, Taken, unmoved, ack_step, go_on, stepping}
use Rattle.ack.proofs.Laws.{Inside, scan_inside}
use Rattle.ack.proofs.Ranges as stepped
use Rattle.ack.proofs.Ranges.{part_length}
use Rattle.ack_iter.specs.Iter.{reading, step_after}

-- ---- the pieces of a step: what stands behind each test and each read of `ack_step`, the last first

-- the block's range; `rest` is the largest number of the range to come
abbrev ranged : ℕ → ℕ → ℕ → ℕ → Taken
ranged largest block rest next = record { step = range (record { smallest = largest - block; largest = largest }); largest = rest; next = next }

-- no byte is left
abbrev ended : ℕ → ℕ → Taken
ended at largest = record { step = end; largest = largest; next = at }

module _ (s : List ℕ) (at largest : ℕ) where
  module _ (block : ℕ) where
    abbrev gap_fits : ℕ → ℕ → Taken
    gap_fits gap next = if leb (length s) next then unmoved 10 at largest else ranged largest block (largest - block - (gap + 2)) next

    abbrev after_gap : ℕ → ℕ → Taken
    after_gap gap next = if ltb (largest - block) (gap + 2) then unmoved 12 at largest else gap_fits gap next

    abbrev gap_read : ℕ → Taken
    gap_read mid = and_then (var_at s mid) (unmoved 10 at largest) after_gap

    abbrev block_fits : ℕ → Taken
    block_fits mid = if leb (length s) mid then ranged largest block largest mid else gap_read mid

    abbrev after_block : ℕ → Taken
    after_block mid = if ltb largest block then unmoved 12 at largest else block_fits mid

  abbrev block_read : Taken
  block_read = and_then (var_at s at) (unmoved 10 at largest) after_block

  abbrev in_numbers : Taken
  in_numbers = if leb (length s) at then ended at largest else block_read

  abbrev in_datagram : Taken
  in_datagram = if leb number_end largest then unmoved 14 at largest else in_numbers

-- ---- a step over what is left of a slice after k bytes, and one over the slice

abbrev later : ℕ → Taken → Taken
later k t = record { step = t.step; largest = t.largest; next = k + t.next }

if_later : (k : ℕ) (b c : Bool) (x y x' y' : Taken) → b ≡ c → x ≡ later k x' → y ≡ later k y' → (if b then x else y) ≡ later k (if c then x' else y')
if_later k b true x y x' y' e f g = rw e f
if_later k b false x y x' y' e f g = rw e g

then_later : (k : ℕ) (m g : Got ℕ) (x x' : Taken) (f f' : ℕ → ℕ → Taken) → g ≡ further k m → x ≡ later k x' → ((v n : ℕ) → f v (k + n) ≡ later k (f' v n)) → and_then g x f ≡ later k (and_then m x' f')
unfolding and_then
then_later k cut g x x' f f' e h more = rw e h
then_later k (got v n) g x x' f f' e h more = rw e (more v n)

module _ (s : List ℕ) (k : ℕ) where
  size : length (drop k s) ≡ length s - k
  size = length-drop k s

  over : (n : ℕ) → length s ≤ k + n → leb (length (drop k s)) n ≡ true
  over n h = le-leb (length (drop k s)) n (rw size (omega arith))

  within : (n : ℕ) → k + n < length s → leb (length (drop k s)) n ≡ false
  within n h = lt-leb (length (drop k s)) n (rw size (omega arith))

  leb_behind : (n : ℕ) → leb (length s) (k + n) ≡ leb (length (drop k s)) n
  leb_behind n = go (leb (length s) (k + n)) refl
    where
      go : (t : Bool) → leb (length s) (k + n) ≡ t → leb (length s) (k + n) ≡ leb (length (drop k s)) n
      go true e = e ∙ sym (over n (leb-true _ _ e))
      go false e = e ∙ sym (within n (leb-false _ _ e))

  -- each piece, k bytes further on
  module _ (i largest : ℕ) where
    module _ (block : ℕ) where
      gap_fits_behind : (gap next : ℕ) → gap_fits s (k + i) largest block gap (k + next) ≡ later k (gap_fits (drop k s) i largest block gap next)
      unfolding unmoved
      gap_fits_behind gap next =
          let rest : ℕ = largest - block - (gap + 2) in
          if_later k (leb (length s) (k + next)) (leb (length (drop k s)) next) (unmoved 10 (k + i) largest) (ranged largest block rest (k + next))
          (unmoved 10 i largest) (ranged largest block rest next) (leb_behind next) refl refl

      gap_behind : (gap next : ℕ) → after_gap s (k + i) largest block gap (k + next) ≡ later k (after_gap (drop k s) i largest block gap next)
      unfolding unmoved
      gap_behind gap next =
          let below : Bool = ltb (largest - block) (gap + 2) in
          if_later k below below (unmoved 12 (k + i) largest) (gap_fits s (k + i) largest block gap (k + next))
          (unmoved 12 i largest) (gap_fits (drop k s) i largest block gap next) refl refl (gap_fits_behind gap next)

      gap_read_behind : (mid : ℕ) → gap_read s (k + i) largest block (k + mid) ≡ later k (gap_read (drop k s) i largest block mid)
      unfolding unmoved
      gap_read_behind mid = then_later k _ _ _ _ _ _ (var_behind s k mid) refl gap_behind

      block_fits_behind : (mid : ℕ) → block_fits s (k + i) largest block (k + mid) ≡ later k (block_fits (drop k s) i largest block mid)
      block_fits_behind mid =
          if_later k (leb (length s) (k + mid)) (leb (length (drop k s)) mid) (ranged largest block largest (k + mid))
          (gap_read s (k + i) largest block (k + mid)) (ranged largest block largest mid) (gap_read (drop k s) i largest block mid)
          (leb_behind mid) refl (gap_read_behind mid)

      block_behind : (mid : ℕ) → after_block s (k + i) largest block (k + mid) ≡ later k (after_block (drop k s) i largest block mid)
      unfolding unmoved
      block_behind mid =
          if_later k (ltb largest block) (ltb largest block) (unmoved 12 (k + i) largest) (block_fits s (k + i) largest block (k + mid))
          (unmoved 12 i largest) (block_fits (drop k s) i largest block mid) refl refl (block_fits_behind mid)

    block_read_behind : block_read s (k + i) largest ≡ later k (block_read (drop k s) i largest)
    unfolding unmoved
    block_read_behind = then_later k _ _ _ _ _ _ (var_behind s k i) refl block_behind

    numbers_behind : in_numbers s (k + i) largest ≡ later k (in_numbers (drop k s) i largest)
    numbers_behind =
        if_later k (leb (length s) (k + i)) (leb (length (drop k s)) i) (ended (k + i) largest) (block_read s (k + i) largest)
        (ended i largest) (block_read (drop k s) i largest) (leb_behind i) refl block_read_behind

    datagram_behind : in_datagram s (k + i) largest ≡ later k (in_datagram (drop k s) i largest)
    unfolding unmoved
    datagram_behind =
        if_later k (leb number_end largest) (leb number_end largest) (unmoved 14 (k + i) largest) (in_numbers s (k + i) largest)
        (unmoved 14 i largest) (in_numbers (drop k s) i largest) refl refl numbers_behind

  module _ (short : length s ≤ 65527) where
    few : length (drop k s) ≤ 65527
    few = rw size (omega arith)

    step_behind : (i largest : ℕ) → ack_step s (k + i) largest ≡ later k (ack_step (drop k s) i largest)
    unfolding ack_step unmoved
    step_behind i largest =
        if_later k (ltb max_datagram (length s)) (ltb max_datagram (length (drop k s))) (unmoved 14 (k + i) largest) (in_datagram s (k + i) largest)
        (unmoved 14 i largest) (in_datagram (drop k s) i largest) (le-ltb _ _ short ∙ sym (le-ltb _ _ few)) refl (datagram_behind i largest)

-- ---- and so all of them

pub reading_steps : (n : ℕ) (s : List ℕ) (k largest : ℕ) → length s ≤ 65527 → reading n (drop k s) largest ≡ stepping n s k largest
unfolding reading stepping
reading_steps zero s k largest short = refl
reading_steps (suc n) s k largest short =
    let t : Taken = ack_step (drop k s) 0 largest in
    let e : ack_step s k largest ≡ later k t = rw add-zero at (step_behind s k short 0 largest) in
    let d : drop t.next (drop k s) ≡ drop (k + t.next) s = drop-drop t.next k s in
    let ih = reading_steps n s (k + t.next) t.largest short in
    rw e (ap (go_on t.step) (ap (λ (l : List ℕ). reading n l t.largest) d ∙ ih))

-- the scan of n rounds ended at e: any number of steps past n over the part that it took says its ranges, and then the end
pub scan_ranges : (s : List ℕ) (at largest n e k : ℕ) → largest < 2 ^ 62 → scan_at s at largest n ≡ ok e → e - at ≤ 65527 → n ≤ k
    → reading (suc (suc k)) (part_of s (record { start = at; len = e - at })) largest ≡ map range (ranges_at s at largest n) ++ (end ∷ [])
scan_ranges s at largest n e k small o short h =
    let i : Inside s at (ok e) = rw o at (scan_inside s at largest n) in
    let all = part_in s (record { start = at; len = e - at }) (e - at) refl (omega arith) in
    let few : length (part_of s (record { start = at; len = e - at })) ≤ 65527 = rw (← all, part_length s at (e - at) (omega arith)) short in
    reading_steps (suc (suc k)) (part_of s (record { start = at; len = e - at })) 0 largest few ∙ stepped.scan_ranges s at largest n e k small o short h

-- ---- `step_after` is what stands at that place of all that the reader says

first_said : (x : Step) (more : List Step) → get_or (go_on x more) 0 end ≡ x
unfolding go_on
first_said (range r) more = refl
first_said end more = refl
first_said (refused k) more = refl

later_said : (x : Step) (more : List Step) (n : ℕ) → suc n < length (go_on x more) → (n < length more) × (get_or (go_on x more) (suc n) end ≡ get_or more n end)
unfolding go_on
later_said (range r) more n h = (omega arith, refl)
later_said end more n h = absurd (omega arith)
later_said (refused k) more n h = absurd (omega arith)

pub nth_reading : (m n : ℕ) (s : List ℕ) (largest : ℕ) → n < length (reading m s largest) → get_or (reading m s largest) n end ≡ step_after n s largest
unfolding reading step_after
nth_reading zero n s largest h = absurd (omega arith)
nth_reading (suc m) zero s largest h = first_said (ack_step s 0 largest).step _
nth_reading (suc m) (suc n) s largest h = let a = later_said (ack_step s 0 largest).step _ n h in a.1 ∙ nth_reading m n _ _ a.0

-- so a reader over what the scan took says the scan's ranges in their order, and then the end
pub scan_nth : (s : List ℕ) (at largest n e i : ℕ) → largest < 2 ^ 62 → scan_at s at largest n ≡ ok e → e - at ≤ 65527 → i < length (map range (ranges_at s at largest n) ++ (end ∷ []))
    → step_after i (part_of s (record { start = at; len = e - at })) largest ≡ get_or (map range (ranges_at s at largest n) ++ (end ∷ [])) i end
scan_nth s at largest n e i small o short h =
    let all = scan_ranges s at largest n e n small o short (omega arith) in
    sym (nth_reading (suc (suc n)) i (part_of s (record { start = at; len = e - at })) largest (rw all h)) ∙ ap (λ (l : List Step). get_or l i end) all
