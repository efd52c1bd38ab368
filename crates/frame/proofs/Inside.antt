-- A frame that was read ends past its start and inside the payload, and every part that it names lies inside it: by the fields, for
-- every row of every table.
use mathlib.Core.Path.{◌≡◌, refl}
use mathlib.Core.List.Memᴰ
use mathlib.Core.List.{List, [], ◌∷◌}
use mathlib.Core.Logic.{⊎_elim}
use mathlib.Core.Option.{Option, some, none}
use Prim.Native.Nat.{ℕ, ◌+◌, ◌≤◌, ◌<◌}
use native.Mathlib.Omega.{arith}
use lib.ListN.{length}
use lib.Dec.{ltb, leb, eqb}
use Rattle.coding.specs.Words.{Got, cut, got, and_then, Answer, no, ok}
use Rattle.coding.specs.Reading.{fixed_at, take_at}
use Rattle.coding.specs.Varint.{var_at}
use Rattle.coding.specs.declared.Place.{Place}
use Rattle.coding.proofs.Laws.{var_inside, fixed_inside, take_inside}
use Rattle.coding.proofs.Rules.{if_all, then_all}
use Rattle.ack.specs.Scan.{scan_at}
use Rattle.ack.proofs.Laws.{Inside, scan_inside}
use Rattle.frame.specs.Format as format
use Rattle.frame.specs.Format.{Value, num, place, Said, said, Field, var, or_none, at_most, bytes, rest, fixed, num64, cid, ack_blocks, const, absent, last_read, last_but_one, in_order, Read, done, refuse, then_read, bytes_at, all_left_at, cid_at, up_to, blocks_at, or_nothing, field_at, fields_at}
use Rattle.frame.specs.Table.{Row, look, read_row, frame_body_at, FrameOutcome, taken, refused, outcome, frame_at}
use Rattle.frame.specs.Walk.{WalkStep, frame, end, step_at}
use Rattle.frame.specs.Inside.{PartsBetween, FrameInside, PlacesInside, StepInside}

-- ---- parts between two places

abbrev Between : ℕ → ℕ → Place → Type 0
Between a b p = (a ≤ p.start) × (p.start + p.len ≤ b)

abbrev ValueIn : ℕ → ℕ → Value → Type 0
ValueIn a b (num n) = Unit
ValueIn a b (place p) = Between a b p
ValueIn a b format.none = Unit

abbrev ValuesIn : ℕ → ℕ → List Value → Type 0
ValuesIn a b [] = Unit
ValuesIn a b (v ∷ vs) = ValueIn a b v × ValuesIn a b vs

-- further apart
module _ (a b c d : ℕ) (h : c ≤ a) (k : b ≤ d) where
  value_on : (v : Value) → ValueIn a b v → ValueIn c d v
  value_on (num n) i = tt
  value_on (place p) i = (omega arith, omega arith)
  value_on format.none i = tt

  values_on : (vs : List Value) → ValuesIn a b vs → ValuesIn c d vs
  values_on [] i = tt
  values_on (v ∷ vs) i = (value_on v i.0, values_on vs i.1)

-- in whatever order
in_order_law : (a b : ℕ) (seen vs : List Value) → ValuesIn a b seen → ValuesIn a b vs → ValuesIn a b (in_order seen vs)
in_order_law a b [] vs h k = k
in_order_law a b (v ∷ seen) vs h k = in_order_law a b seen (v ∷ vs) h.1 (h.0, k)

each : (a b : ℕ) (vs : List Value) → ValuesIn a b vs → PartsBetween a b vs
each a b [] h p m = absurd (Memᴰ.not-nil m)
each a b (v ∷ vs) h p m = ⊎_elim (λ e. one v e h.0) (λ n. each a b vs h.1 p n) (Memᴰ.cases_cons m)
  where
    one : (v : Value) → place p ≡ v → ValueIn a b v → Between a b p
    one v e i = rw (← e) at i

-- ---- one field, at a place

module _ (s : List ℕ) (at : ℕ) where
  -- at or past the place, and inside
  abbrev In : ℕ → Type 0
  In n = (at ≤ n) × (n ≤ length s)

  -- a part that was found, and the place past it
  abbrev Lies : Place → ℕ → Type 0
  Lies p n = In n × Between at n p

  abbrev Found : Got Place → Type 0
  Found (got p n) = Lies p n
  Found cut = Unit

  abbrev Reads : Read Place → Type 0
  Reads (done p n) = Lies p n
  Reads (refuse k) = Unit

  -- an integer, a number and a part from p on, and what follows them
  module _ {A : Type 0} (p : ℕ) (h : at ≤ p) (P : A → Type 0) (stop : A) (z : P stop) where
    then_var : (f : ℕ → ℕ → A) → ((v n : ℕ) → In n → P (f v n)) → P (and_then (var_at s p) stop f)
    then_var f g = then_all P (var_at s p) stop f (λ _. z) (λ v n e. g v n (let i = var_inside s p v n e in (omega arith, i.1)))

    then_fixed : (w : ℕ) (f : ℕ → ℕ → A) → ((v n : ℕ) → In n → P (f v n)) → P (and_then (fixed_at w s p) stop f)
    then_fixed w f g = then_all P (fixed_at w s p) stop f (λ _. z) (λ v n e. g v n (let i = fixed_inside w s p v n e in (omega arith, i.1)))

    then_take : (w : ℕ) (f : Place → ℕ → A) → ((v : Place) (n : ℕ) → Lies v n → P (f v n)) → P (and_then (take_at w s p) stop f)
    then_take w f g =
        then_all P (take_at w s p) stop f (λ _. z) (λ v n e.
        let i = take_inside w s p v n e in
        g v n ((omega arith, i.1.1), (omega arith, omega arith)))

  take_found : (p w : ℕ) → at ≤ p → Found (take_at w s p)
  take_found p w h = go (take_at w s p) refl
    where
      go : (r : Got Place) → take_at w s p ≡ r → Found r
      go cut e = tt
      go (got v n) e = let i = take_inside w s p v n e in ((omega arith, i.1.1), (omega arith, omega arith))

  bytes_found : (p : ℕ) → at ≤ p → Found (bytes_at s p)
  unfolding bytes_at
  bytes_found p h = then_var p h Found cut tt _ (λ v n i. take_found n v i.0)

  cid_reads : (p : ℕ) → at ≤ p → Reads (cid_at s p)
  unfolding cid_at
  cid_reads p h =
      then_fixed p h Reads (refuse 10) tt 1 _ (λ l q i.
      if_all Reads (eqb l 0) _ _ (λ _. tt) (λ _.
      if_all Reads (ltb 20 l) _ _ (λ _. tt) (λ _.
      then_take q i.0 Reads (refuse 10) tt l _ (λ v n j. j))))

  up_reads : (p : ℕ) → at ≤ p → (r : Answer ℕ) → Inside s p r → Reads (up_to p r)
  unfolding up_to
  up_reads p h (ok n) i = ((omega arith, i.1), (h, omega arith))
  up_reads p h (no k) i = tt

  blocks_read : (p largest : ℕ) → at ≤ p → Reads (blocks_at s p largest)
  unfolding blocks_at
  blocks_read p largest h =
      then_var p h Reads (refuse 10) tt _ (λ count n i. up_reads n i.0 (scan_at s n largest count) (scan_inside s n largest count))

  -- what holds of a refusal, and of what follows a value that lies there, holds of the field and what follows it
  module _ (P : Read Said → Type 0) (no : (k : ℕ) → P (refuse k)) (next : Value → ℕ → Read Said)
      (g : (v : Value) (n : ℕ) → In n → ValueIn at n v → P (next v n)) where
    then_found : (r : Got Place) → Found r → P (and_then r (refuse 10) (λ p n. next (place p) n))
    unfolding and_then
    then_found cut h = no 10
    then_found (got v n) h = g (place v) n h.0 h.1

    then_reads : (r : Read Place) → Reads r → P (then_read r (λ p n. next (place p) n))
    unfolding then_read
    then_reads (done v n) h = g (place v) n h.0 h.1
    then_reads (refuse k) h = no k

    field_in : (f : Field) (seen : List Value) → at ≤ length s → P (field_at f s at seen next)
    unfolding field_at all_left_at or_nothing
    field_in var seen k = then_var at (omega arith) P (refuse 10) (no 10) _ (λ v n i. g _ n i tt)
    field_in or_none seen k =
        then_var at (omega arith) P (refuse 10) (no 10) _ (λ v n i. g _ n i (if_all (ValueIn at n) (eqb v 0) format.none (num v) (λ _. tt) (λ _. tt)))
    field_in at_most seen k =
        then_var at (omega arith) P (refuse 10) (no 10) _ (λ v n i. if_all P (ltb (last_read seen) v) _ _ (λ _. no 12) (λ _. g _ n i tt))
    field_in bytes seen k = then_found (bytes_at s at) (bytes_found at (omega arith))
    field_in rest seen k = then_found (all_left_at s at) (take_found at _ (omega arith))
    field_in (fixed w) seen k = then_found (take_at w s at) (take_found at w (omega arith))
    field_in num64 seen k = then_fixed at (omega arith) P (refuse 10) (no 10) 8 _ (λ v n i. g _ n i tt)
    field_in cid seen k = then_reads (cid_at s at) (cid_reads at (omega arith))
    field_in ack_blocks seen k = then_reads (blocks_at s at (last_but_one seen)) (blocks_read at (last_but_one seen) (omega arith))
    field_in (const v) seen k = g (num v) at (omega arith, k) tt
    field_in absent seen k = g format.none at (omega arith, k) tt

-- ---- a row's fields

module _ (s : List ℕ) (start : ℕ) where
  abbrev Ends : Read Said → Type 0
  Ends (done (said name vs) n) = ((start ≤ n) × (n ≤ length s)) × ValuesIn start n vs
  Ends (refuse k) = Unit

  fields_end : (name : ℕ) (fs : List Field) (at : ℕ) (seen : List Value) → start ≤ at → at ≤ length s → ValuesIn start at seen
      → Ends (fields_at name fs s at seen)
  unfolding fields_at
  fields_end name [] at seen h k i = ((h, k), in_order_law start at seen [] i tt)
  fields_end name (f ∷ fs) at seen h k i =
      field_in s at Ends (λ _. tt) _ (λ v n j w.
      fields_end name fs n (v ∷ seen) (omega arith) j.1 (value_on at n start n h (omega arith) v w, values_on start at start n (omega arith) j.0 seen i)) f seen k

  row_ends : (r : Option Row) (t : ℕ) → start ≤ length s → Ends (read_row r t s start)
  row_ends none t h = tt
  row_ends (some r) t h = fields_end r.first (r.fields t) start [] (omega arith) h tt

-- ---- a frame

abbrev pub values_in : Said → List Value
values_in (said name vs) = vs

abbrev pub Past : List ℕ → ℕ → FrameOutcome → Type 0
Past s start (taken t f n) = FrameInside s start (values_in f) n
Past s start (refused k at t) = Unit

outcome_past : (s : List ℕ) (start at t : ℕ) (r : Read Said) → start < at → Ends s at r → Past s start (outcome start t r)
unfolding outcome
outcome_past s start at t (done (said name vs) n) h i = ((omega arith, i.0.1), each start n vs (values_on at n start n (omega arith) (omega arith) vs i.1))
outcome_past s start at t (refuse k) h i = tt

pub frame_past : (rows : List Row) (s : List ℕ) (start : ℕ) → Past s start (frame_at rows s start)
unfolding frame_at frame_body_at
frame_past rows s start =
    then_all (Past s start) (var_at s start) _ _ (λ _. tt) (λ t at e.
    let i = var_inside s start t at e in
    outcome_past s start at t (read_row (look rows t) t s at) i.0 (row_ends s at (look rows t) t i.1))

pub places_inside : PlacesInside
places_inside rows s start t name vs next e = rw e at (frame_past rows s start)

-- ---- a step

abbrev StepPast : List ℕ → ℕ → WalkStep → Type 0
StepPast s at (frame o) = Past s at o
StepPast s at end = Unit

step_past : (rows : List Row) (s : List ℕ) (at : ℕ) → StepPast s at (step_at rows s at)
unfolding step_at
step_past rows s at =
    if_all (StepPast s at) (ltb 65527 (length s)) _ _ (λ _. tt) (λ _.
    if_all (StepPast s at) (eqb (length s) 0) _ _ (λ _. tt) (λ _.
    if_all (StepPast s at) (leb (length s) at) _ _ (λ _. tt) (λ _. frame_past rows s at)))

pub step_inside : StepInside
step_inside rows s start t name vs next e = rw e at (step_past rows s start)
