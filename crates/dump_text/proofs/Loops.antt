-- What one turn of the loop over the lines does, where it counts them and where it writes them.
use mathlib.Core.Path.{◌≡◌, refl, sym, ap, ◌∙◌}
use mathlib.Core.List.{List, [], ◌∷◌, ◌++◌, append_assoc}
use mathlib.Core.Bool.{Bool, true, false}
use mathlib.Core.Option.{Option, none, some}
use Prim.Native.Nat.{ℕ, zero, suc, ◌+◌, ◌-◌, ◌^◌, ◌≤◌, ◌<◌}
use native.Mathlib.Omega.{arith}
use lib.ListN.{length, length-append}
use Rattle.coding.specs.Writing.{Put}
use Rattle.coding.proofs.Laws.{length_splice}
use Rattle.coding.proofs.Writes.{So, so_none, so_put, put_so}
use Rattle.std.specs.Prelude.{Option as Maybe, Some, None}
use Rattle.packet.specs.Said.{option_of}
use Rattle.packet.proofs.Walks.{repeated, walk_steps, step_inside}
use Rattle.dump_text.specs.Dump.{lines_of, dump_text, next_of}
use Rattle.dump_text.specs.Turns.{step_here, line_at, place_after, Roomy, AllPut}
use Rattle.dump_text.proofs.Bounds.{line_short}
use Rattle.dump_text.proofs.Texts.{next_some, more_text, last_text}

pub so_length : {old bs new : List ℕ} {r : ℕ} → So old 0 bs r new → length bs ≤ length old → length new ≡ length old
so_length {old} {bs} s h = rw s.bytes (length_splice old bs 0 (omega arith))

-- ---- the text so far, and what the steps from a place on add to it

abbrev rest_text : List ℕ → ℕ → ℕ → List ℕ
rest_text s turns at = lines_of (length s) (repeated (suc turns) s at 0 (1 ∷ []) false)

-- the steps up to a place have said this
pub record Came (s : List ℕ) (at : ℕ) (said : List ℕ) : Type 0 where
  pub inside : at ≤ length s
  pub turns : ℕ
  pub enough : length s ≤ turns + at
  pub rest : said ++ rest_text s turns at ≡ dump_text s

came_start : (s : List ℕ) → Came s 0 []
unfolding dump_text
came_start s = record { inside = omega arith; turns = length s; enough = omega arith; rest = ap (lines_of (length s)) (walk_steps s 0 (1 ∷ []) false) }

-- the packet that a step meets moves the place
pub moves : (s : List ℕ) (at next : ℕ) → some next ≡ next_of (step_here s at).met → (at < next) × (next ≤ length s)
moves s at next e =
    let p = next_some (step_here s at).met next e in
    let m = step_inside s 0 (1 ∷ []) false at p.start p.len p.is in
    (omega (arith, m.starts, m.some, p.end), omega (arith, m.inside, p.end))

-- a step's line is the first of what is left
line_le : (s : List ℕ) (turns at : ℕ) → length (line_at s at) ≤ length (rest_text s turns at)
line_le s turns at = go (next_of (step_here s at).met) refl
  where
    go : (o : Option ℕ) → o ≡ next_of (step_here s at).met → length (line_at s at) ≤ length (rest_text s turns at)
    go none e = rw (last_text s at turns e) (omega arith)
    go (some next) e =
        let p = next_some (step_here s at).met next e in
        rw (more_text s at turns p.start p.len p.is) (simp length-append (omega arith))

module _ {s said : List ℕ} {at : ℕ} (g : Came s at said) where
  came_le : length said + length (line_at s at) ≤ length (dump_text s)
  came_le =
      let l : length said + length (rest_text s g.turns at) ≡ length (dump_text s) = sym (length-append said (rest_text s g.turns at)) ∙ ap length g.rest in
      omega (arith, line_le s g.turns at)

  came_done : none ≡ next_of (step_here s at).met → said ++ line_at s at ≡ dump_text s
  came_done e = sym (ap (λ (l : List ℕ). said ++ l) (last_text s at g.turns e)) ∙ g.rest

  more : (next turns : ℕ) → length s ≤ turns + at → said ++ rest_text s turns at ≡ dump_text s → some next ≡ next_of (step_here s at).met → Came s next (said ++ line_at s at)
  more next zero l t e = let m = moves s at next e in absurd (omega arith)
  more next (suc turns) l t e =
      let q = next_some (step_here s at).met next e in
      let m = moves s at next e in
      let u : rest_text s (suc turns) at ≡ line_at s at ++ rest_text s turns (q.start + q.len) = more_text s at (suc turns) q.start q.len q.is in
      let v : rest_text s turns (q.start + q.len) ≡ rest_text s turns next = ap (rest_text s turns) q.end in
      record {
        inside = m.1;
        turns = turns;
        enough = omega arith;
        rest = append_assoc said (line_at s at) (rest_text s turns next) ∙ ap (λ (l : List ℕ). said ++ l) (sym (u ∙ ap (λ (l : List ℕ). line_at s at ++ l) v)) ∙ t;
      }

  came_more : (next : ℕ) → some next ≡ next_of (step_here s at).met → Came s next (said ++ line_at s at)
  came_more next e = more next g.turns g.enough g.rest e

-- ---- the loop that counts: n is the length of the text so far

pub record Counting (s : List ℕ) (at n : ℕ) : Type 0 where
  pub said : List ℕ
  pub count : n ≡ length said
  pub came : Came s at said

pub counting_start : (s : List ℕ) → Counting s 0 0
counting_start s = record { said = []; count = refl; came = came_start s }

module _ {s : List ℕ} {at n : ℕ} (g : Counting s at n) (len : ℕ) (e : len ≡ length (line_at s at)) where
  pub counting_le : n + len ≤ length (dump_text s)
  counting_le = omega (arith, g.count, came_le g.came)

  pub counting_more : (next : ℕ) → some next ≡ next_of (step_here s at).met → Counting s next (n + len)
  counting_more next f =
      record { said = g.said ++ line_at s at; count = omega (arith, g.count, length-append g.said (line_at s at)); came = came_more g.came next f }

  pub counting_done : none ≡ next_of (step_here s at).met → n + len ≡ length (dump_text s)
  counting_done f = omega (arith, g.count, length-append g.said (line_at s at), ap length (came_done g.came f))

-- ---- the loop that writes: the text so far stands in the buffer

pub record Going (s old buf : List ℕ) (at p : ℕ) : Type 0 where
  pub said : List ℕ
  pub so : So old 0 said p buf
  pub came : Came s at said

pub going_start : (s old : List ℕ) → Going s old old 0 0
going_start s old = record { said = []; so = so_none old 0; came = came_start s }

module _ {s old buf : List ℕ} {at p : ℕ} (g : Going s old buf at p) (fits : length (dump_text s) ≤ length old) where
  pub going_room : p + length (line_at s at) ≤ length buf
  going_room =
      let a = came_le g.came in
      let l : length buf ≡ length old = so_length g.so (omega arith) in
      omega (arith, g.so.place)

  module _ {new : List ℕ} {r : ℕ} (put : Put (line_at s at) buf p r new) where
    so_on : So old 0 (g.said ++ line_at s at) r new
    so_on = so_put g.so (let a = came_le g.came in omega arith) put

    pub going_done : none ≡ next_of (step_here s at).met → So old 0 (dump_text s) r new
    going_done e = rw (came_done g.came e) at so_on

    pub going_more : (next : ℕ) → some next ≡ next_of (step_here s at).met → Going s old new next r
    going_more next e = record { said = g.said ++ line_at s at; so = so_on; came = came_more g.came next e }

-- ---- both ways

abbrev pub Placed : Bool → List ℕ → List ℕ → List ℕ → ℕ → ℕ → Type 0
Placed true s old buf at p = (p ≡ 0) × (length buf ≡ length old)
Placed false s old buf at p = Going s old buf at p

pub record Lines (s old buf : List ℕ) (anew : Bool) (at p n : ℕ) : Type 0 where
  pub count : Counting s at n
  pub place : Placed anew s old buf at p

pub lines_start : (s old : List ℕ) (anew : Bool) → Lines s old old anew 0 0 0
lines_start s old true = record { count = counting_start s; place = (refl, refl) }
lines_start s old false = record { count = counting_start s; place = going_start s old }

module _ {s old buf : List ℕ} {at p n : ℕ} (l : length s < 2 ^ 64) where
  pub lines_room : (anew : Bool) → Lines s old buf anew at p n → Roomy anew s (length old) → p + length (line_at s at) ≤ length buf
  unfolding Roomy
  lines_room true g r = omega (arith, line_short s at l (omega (arith, g.count.came.inside)), g.place)
  lines_room false g r = going_room g.place r

  module _ {new : List ℕ} {q : ℕ} (put : Put (line_at s at) buf p q new) where
    so : (anew : Bool) → Lines s old buf anew at p n → Roomy anew s (length old) → So buf p (line_at s at) q new
    so anew g r = put_so (line_at s at) buf p (lines_room anew g r) put

    line_len : (anew : Bool) → Lines s old buf anew at p n → Roomy anew s (length old) → q - p ≡ length (line_at s at)
    line_len anew g r = omega (arith, (so anew g r).place)

    pub lines_len : (anew : Bool) → Lines s old buf anew at p n → Roomy anew s (length old) → (p ≤ q) × (n + (q - p) ≤ length (dump_text s))
    lines_len anew g r = (omega (arith, (so anew g r).place), counting_le g.count (q - p) (line_len anew g r))

    pub lines_same : (anew : Bool) → Lines s old buf anew at p n → Roomy anew s (length old) → length new ≡ length old
    unfolding Roomy
    lines_same true g r = rw (so true g r).bytes (length_splice buf (line_at s at) p (lines_room true g r)) ∙ g.place.1
    lines_same false g r =
        rw (so false g r).bytes (length_splice buf (line_at s at) p (lines_room false g r))
        ∙ so_length g.place.so (omega (arith, came_le g.place.came))

    pub lines_more : (anew : Bool) → Lines s old buf anew at p n → Roomy anew s (length old) → (next : ℕ) → some next ≡ next_of (step_here s at).met
        → Lines s old new anew next (place_after anew q) (n + (q - p))
    unfolding Roomy
    lines_more true g r next e = record { count = counting_more g.count (q - p) (line_len true g r) next e; place = (refl, lines_same true g r) }
    lines_more false g r next e = record { count = counting_more g.count (q - p) (line_len false g r) next e; place = going_more g.place r put next e }

    pub lines_done : (anew : Bool) → Lines s old buf anew at p n → Roomy anew s (length old) → none ≡ next_of (step_here s at).met
        → AllPut s anew old (n + (q - p)) new
    unfolding Roomy
    lines_done true g r e =
        record { len = counting_done g.count (q - p) (line_len true g r) e; bytes = λ f. let z : ◌≡◌ {A = ℕ} 0 1 = cc in absurd (omega arith) }
    lines_done false g r e =
        record { len = counting_done g.count (q - p) (line_len false g r) e; bytes = λ f. (going_done g.place r put e).bytes }

-- a step to go, or none
abbrev pub Goes : List ℕ → List ℕ → List ℕ → Bool → Maybe ℕ → ℕ → ℕ → Type 0
Goes s old buf anew (Some at) p n = Lines s old buf anew at p n
Goes s old buf anew None p n = AllPut s anew old n buf

-- how far the walk has to go
abbrev pub left : List ℕ → Maybe ℕ → ℕ
left s (Some at) = suc (length s - at)
left s None = 0

pub left_less : (s : List ℕ) (at : ℕ) (o : Maybe ℕ) → option_of o ≡ next_of (step_here s at).met → left s o < suc (length s - at)
left_less s at (Some next) e = let m = moves s at next e in omega arith
left_less s at None e = omega arith

pub goes_on : {s old buf : List ℕ} {at p n : ℕ} → length s < 2 ^ 64 → {new : List ℕ} {q : ℕ} → Put (line_at s at) buf p q new
    → (anew : Bool) → Lines s old buf anew at p n → Roomy anew s (length old) → (o : Maybe ℕ) → option_of o ≡ next_of (step_here s at).met
    → Goes s old new anew o (place_after anew q) (n + (q - p))
goes_on l put anew g r (Some next) e = lines_more l put anew g r next e
goes_on l put anew g r None e = lines_done l put anew g r e
