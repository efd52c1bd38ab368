-- A frame's record gives back what the table said, for any table whose rows have at most six fields; and so have this one's.
use Rattle.std.specs.Prelude.{eqb, ltb, leb, if◌then◌else◌}
use mathlib.Core.Path.{◌≡◌, refl, ap, ◌∙◌}
use mathlib.Core.List.{List, [], ◌∷◌}
use mathlib.Core.Bool.{Bool, true, false, cond}
use mathlib.Core.Option.{Option, some}
use mathlib.Core.Option as option
use Prim.Native.Nat.{ℕ, zero, suc, ◌+◌, ◌-◌, ◌≤◌}
use native.Mathlib.Omega.{arith}
use lib.ListN.{length, take}
use borrow.Author.Tests.{ne_eqb}
use Rattle.coding.specs.Words.{Answer, no, ok, and_then, max_datagram}
use Rattle.coding.specs.Reading.{fixed_at, take_at}
use Rattle.coding.specs.Varint.{var_at}
use Rattle.coding.specs.declared.Place.{Place}
use Rattle.coding.proofs.Rules.{if_all, then_all}
use Rattle.coding.proofs.Numbers.{Refuses}
use Rattle.ack.specs.Scan.{rounds, scan_at}
use Rattle.shared.specs.Cid.{max_cid}
use Rattle.frame.specs.Format.{Value, num, place, none, Said, said, Field, var, or_none, at_most, bytes, rest, fixed, num64, cid, ack_blocks, const, absent, last_read, last_but_one, in_order, Read, done, refuse, then_read, bytes_at, all_left_at, cid_at, up_to, blocks_at, field_at, fields_at, bit}
use Rattle.frame.specs.Table.{Row, look, has, read_row, frame_body_at, table, FrameOutcome, taken, refused, outcome, frame_at, ack_fields}
use Rattle.frame.specs.Walk.{WalkStep, frame, end, step_at}
use Rattle.gateway_frame.specs.Frames.{value_of, frame_record, frame_for}
use Rattle.gateway_frame.specs.GivesBack.{value_back, values_back, count_in, AtMostSix, frame_step_back, FrameGivesBack}

-- ---- what a read says: as many values as there are fields, or a refusal's number, which is not 0

abbrev Fine : {A : Type 0} → (A → Type 0) → Read A → Type 0
Fine P (done a n) = P a
Fine P (refuse k) = k ≡ 0 → ⊥

ten : ◌≡◌ {A = ℕ} 10 0 → ⊥
ten e = omega (arith, e)

twelve : ◌≡◌ {A = ℕ} 12 0 → ⊥
twelve e = omega (arith, e)

abbrev any : {A : Type 0} → A → Type 0
any a = Unit

-- a value for each field
abbrev Counts : ℕ → Said → Type 0
Counts n (said name vs) = length vs ≡ n

length_order : (seen vs : List Value) → length (in_order seen vs) ≡ length seen + length vs
length_order [] vs = omega arith
length_order (v ∷ seen) vs = length_order seen (v ∷ vs) ∙ omega arith

module _ (s : List ℕ) where
  rounds_fine : (n at smallest : ℕ) → Refuses (rounds s n at smallest)
  unfolding rounds
  rounds_fine zero at smallest = tt
  rounds_fine (suc n) at smallest =
      let below : ℕ → ℕ → ℕ → Answer ℕ = λ largest block past. if ltb largest block then no 12 else rounds s n past (largest - block) in
      let gapped : ℕ → ℕ → Answer ℕ = λ gap mid. and_then (var_at s mid) (no 10) (below (smallest - (gap + 2))) in
      then_all Refuses (var_at s at) (no 10) (λ gap mid. if ltb smallest (gap + 2) then no 12 else gapped gap mid) (λ _. ten) (λ gap mid _.
      if_all Refuses (ltb smallest (gap + 2)) (no 12) (gapped gap mid) (λ _. twelve) (λ _.
      let largest : ℕ = smallest - (gap + 2) in
      then_all Refuses (var_at s mid) (no 10) (below largest) (λ _. ten) (λ block past _.
      if_all Refuses (ltb largest block) (no 12) (rounds s n past (largest - block)) (λ _. twelve) (λ _. rounds_fine n past (largest - block)))))

  scan_fine : (at largest n : ℕ) → Refuses (scan_at s at largest n)
  unfolding scan_at
  scan_fine at largest n =
      let below : ℕ → ℕ → Answer ℕ = λ first after. if ltb largest first then no 12 else rounds s n after (largest - first) in
      then_all Refuses (var_at s at) (no 10) below (λ _. ten) (λ first after _.
      if_all Refuses (ltb largest first) (no 12) (rounds s n after (largest - first)) (λ _. twelve) (λ _. rounds_fine n after (largest - first)))

  up_fine : (p : ℕ) (r : Answer ℕ) → Refuses r → Fine any (up_to p r)
  unfolding up_to
  up_fine p (ok n) h = tt
  up_fine p (no k) h = h

  blocks_fine : (at largest : ℕ) → Fine any (blocks_at s at largest)
  unfolding blocks_at
  blocks_fine at largest = then_all (Fine any) (var_at s at) _ _ (λ _. ten) (λ count p _. up_fine p _ (scan_fine p largest count))

  cid_fine : (at : ℕ) → Fine any (cid_at s at)
  unfolding cid_at
  cid_fine at =
      let taken_at : ℕ → ℕ → Read Place = λ l p. and_then (take_at l s p) (refuse 10) (λ id n. done id n) in
      let long : ℕ → ℕ → Read Place = λ l p. if ltb max_cid l then refuse 12 else taken_at l p in
      then_all (Fine any) (fixed_at 1 s at) (refuse 10) (λ l p. if eqb l 0 then refuse 12 else long l p) (λ _. ten) (λ l p _.
      if_all (Fine any) (eqb l 0) (refuse 12) (long l p) (λ _. twelve) (λ _.
      if_all (Fine any) (ltb max_cid l) (refuse 12) (taken_at l p) (λ _. twelve) (λ _.
      then_all (Fine any) (take_at l s p) (refuse 10) (λ id n. done id n) (λ _. ten) (λ id n _. tt))))

  module _ (P : Said → Type 0) where
    then_fine : (r : Read Place) → Fine any r → (f : Place → ℕ → Read Said) → ((p : Place) (n : ℕ) → Fine P (f p n)) → Fine P (then_read r f)
    unfolding then_read
    then_fine (done p n) h f g = g p n
    then_fine (refuse k) h f g = h

    field_fine : (f : Field) (at : ℕ) (seen : List Value) (next : Value → ℕ → Read Said) → ((v : Value) (n : ℕ) → Fine P (next v n)) → Fine P (field_at f s at seen next)
    unfolding field_at
    field_fine var at seen next g = then_all (Fine P) (var_at s at) _ _ (λ _. ten) (λ v n _. g _ n)
    field_fine or_none at seen next g = then_all (Fine P) (var_at s at) _ _ (λ _. ten) (λ v n _. g _ n)
    field_fine at_most at seen next g =
        then_all (Fine P) (var_at s at) (refuse 10) (λ v n. if ltb (last_read seen) v then refuse 12 else next (num v) n) (λ _. ten) (λ v n _.
        if_all (Fine P) (ltb (last_read seen) v) (refuse 12) (next (num v) n) (λ _. twelve) (λ _. g (num v) n))
    field_fine bytes at seen next g = then_all (Fine P) (bytes_at s at) _ _ (λ _. ten) (λ v n _. g _ n)
    field_fine rest at seen next g = then_all (Fine P) (all_left_at s at) _ _ (λ _. ten) (λ v n _. g _ n)
    field_fine (fixed w) at seen next g = then_all (Fine P) (take_at w s at) _ _ (λ _. ten) (λ v n _. g _ n)
    field_fine num64 at seen next g = then_all (Fine P) (fixed_at 8 s at) _ _ (λ _. ten) (λ v n _. g _ n)
    field_fine cid at seen next g = then_fine (cid_at s at) (cid_fine at) _ (λ v n. g _ n)
    field_fine ack_blocks at seen next g = then_fine (blocks_at s at (last_but_one seen)) (blocks_fine at (last_but_one seen)) _ (λ v n. g _ n)
    field_fine (const v) at seen next g = g (num v) at
    field_fine absent at seen next g = g none at

  fields_fine : (name : ℕ) (fs : List Field) (at : ℕ) (seen : List Value) → Fine (Counts (length seen + length fs)) (fields_at name fs s at seen)
  unfolding fields_at
  fields_fine name [] at seen = length_order seen []
  fields_fine name (f ∷ fs) at seen =
      field_fine (Counts (length seen + suc (length fs))) f at seen _ (λ v n.
      let e : suc (length seen) + length fs ≡ length seen + suc (length fs) = omega arith in
      rw e at (fields_fine name fs n (v ∷ seen)))

  row_fine : (r : Option Row) (t at : ℕ) → Fine (Counts (count_in r t)) (read_row r t s at)
  row_fine option.none t at = λ e. omega (arith, e)
  row_fine (some r) t at = let e : 0 + length (r.fields t) ≡ length (r.fields t) = omega arith in rw e at (fields_fine r.first (r.fields t) at [])

-- ---- the values of a frame, given back

value_back_law : (v : Value) → value_back (value_of v) ≡ v
value_back_law none = refl
value_back_law (num n) = refl
value_back_law (place p) = refl

values_back_law : (start t name : ℕ) (vs : List Value) (next : ℕ) → length vs ≤ 6 → take (length vs) (values_back (frame_record start (frame (taken t (said name vs) next)))) ≡ vs
unfolding frame_record
values_back_law start t name [] next h = refl
values_back_law start t name (a ∷ []) next h = simp value_back_law
values_back_law start t name (a ∷ b ∷ []) next h = simp value_back_law
values_back_law start t name (a ∷ b ∷ c ∷ []) next h = simp value_back_law
values_back_law start t name (a ∷ b ∷ c ∷ d ∷ []) next h = simp value_back_law
values_back_law start t name (a ∷ b ∷ c ∷ d ∷ e ∷ []) next h = simp value_back_law
values_back_law start t name (a ∷ b ∷ c ∷ d ∷ e ∷ f ∷ []) next h = simp value_back_law
values_back_law start t name (a ∷ b ∷ c ∷ d ∷ e ∷ f ∷ g ∷ vs) next h = absurd (omega (arith, h))

-- ---- a step, over any table whose rows have at most six fields

module _ (rows : List Row) (few : AtMostSix rows) (at : ℕ) where
  abbrev Back : WalkStep → Type 0
  Back x = (frame_step_back rows (frame_record at x) ≡ x) × ((frame_record at x).start ≡ at)

  none_back : (k : ℕ) → (k ≡ 0 → ⊥) → Back (frame (refused k at option.none))
  unfolding frame_record
  none_back k z = (rw (ne_eqb k 0 z), refl)

  end_back : Back end
  unfolding frame_record
  end_back = (refl, refl)

  read_back : (t : ℕ) (r : Read Said) → Fine (Counts (count_in (look rows t) t)) r → Back (frame (outcome at t r))
  unfolding outcome frame_record
  read_back t (done (said name vs) n) e =
      (ap (λ (x : List Value). frame (taken t (said name x) n)) (rw (← e) (values_back_law at t name vs n (rw (← e) at (few t)))), refl)
  read_back t (refuse k) z = (rw (ne_eqb k 0 z), refl)

  pub step_back : (s : List ℕ) → Back (step_at rows s at)
  unfolding step_at frame_at frame_body_at
  step_back s =
      let read : WalkStep = frame (frame_at rows s at) in
      let ended : WalkStep = if leb (length s) at then end else read in
      let empty : WalkStep = if eqb (length s) 0 then frame (refused 13 at option.none) else ended in
      if_all Back (ltb max_datagram (length s)) (frame (refused 14 at option.none)) empty (λ _. none_back 14 (λ z. omega (arith, z))) (λ _.
      if_all Back (eqb (length s) 0) (frame (refused 13 at option.none)) ended (λ _. none_back 13 (λ z. omega (arith, z))) (λ _.
      if_all Back (leb (length s) at) end read (λ _. end_back) (λ _.
      then_all (λ (o : FrameOutcome). Back (frame o)) (var_at s at) _ _ (λ _. none_back 10 ten) (λ t n _. read_back t _ (row_fine s (look rows t) t n)))))

-- ---- the table of frames

abbrev Few : List Row → Type 0
Few [] = Unit
Few (r ∷ rows) = ((t : ℕ) → length (r.fields t) ≤ 6) × Few rows

few_looked : (rows : List Row) → Few rows → AtMostSix rows
few_looked [] h t = omega arith
few_looked (r ∷ rows) h t = go (has t r) (few_looked rows h.1 t)
  where
    go : (b : Bool) → count_in (look rows t) t ≤ 6 → count_in (cond b (some r) (look rows t)) t ≤ 6
    go true i = h.0 t
    go false i = i

ecn_few : (b : Bool) → length (ack_fields b) ≤ 6
ecn_few true = omega arith
ecn_few false = omega arith

table_few : Few table
unfolding table
table_few = (λ t. omega arith, (λ t. omega arith, (λ t. ecn_few (bit 1 t), omega arith)))

pub table_six : AtMostSix table
table_six = few_looked table table_few

pub frame_back : FrameGivesBack
unfolding frame_for
frame_back s at = step_back table table_six at s
