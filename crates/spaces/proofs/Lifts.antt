-- The cases of a lifted call, over any call of one space.
use Prim.Native.Nat.{ℕ}
use mathlib.Core.Path.{◌≡◌, refl, sym, ap, ◌∙◌}
use mathlib.Core.Option.{Option, some}
use Rattle.coding.specs.Words.{Answer, no, ok}
use Rattle.number.specs.Ends.{Ends, Call, Packet, done}
use Rattle.packet.specs.declared.header.SpaceId.{SpaceId}
use Rattle.std.specs.Prelude.{Result, Ok, Err}
use mathlib.Core.Option as math
use Rattle.coding.specs.Refusals.{number_of}
use Rattle.coding.specs.declared.refusal.Refusal.{Refusal}
use Rattle.coding.specs.declared.refusal.Refusal.TheVariants as refusal
use Rattle.shared.specs.declared.kinds.CutNumber.{CutNumber}
use Rattle.shared.specs.declared.kinds.FullNumber.{FullNumber}
use Rattle.number.specs.Said.{ends_of, sent_of, kept_of}
use Rattle.number.specs.declared.ends.Space.{Space}
use Rattle.spaces.specs.Said.{spaces_of, sent_all_of, kept_all_of, Calls}
use Rattle.spaces.specs.declared.Spaces.{Spaces as Record}
use Rattle.spaces.specs.Each.{Each, of, put}
use Rattle.spaces.specs.Calls.{Spaces, Told, refused_all, done_all, within, lifted, told}

module _ {E A : Type 0} (f : E → Told E A) (x : Each E) (s : SpaceId) where
  -- refused in one space, it is refused in the record
  pub lifts_no : {k : ℕ} → (f (of x s)).says ≡ no k → lifted f (some s) x ≡ refused_all k x
  unfolding lifted within
  lifts_no q = rw q

  -- done in one space, it is done in the record
  pub lifts : {a : A} → (f (of x s)).says ≡ ok a → lifted f (some s) x ≡ done_all a (put x s (f (of x s)).leaves)
  unfolding lifted within
  lifts q = rw q

  -- what is said is what the one space says
  pub lifted_says : (lifted f (some s) x).says ≡ (f (of x s)).says
  lifted_says = go (f (of x s)).says refl
    where
      go : (b : Answer A) → (f (of x s)).says ≡ b → (lifted f (some s) x).says ≡ (f (of x s)).says
      go (no k) r = ap (λ (t : Told (Each E) A). t.says) (lifts_no r) ∙ sym r
      go (ok b) r = ap (λ (t : Told (Each E) A). t.says) (lifts r) ∙ sym r

-- ---- a call of number, lifted

module _ {A : Type 0} (f : Ends → Call A) (x : Spaces) where
  abbrev inAll : Option SpaceId → Told Spaces A
  inAll o = lifted (λ e. told (f e)) o x

  -- done in one space, it is done in the record
  pub lifts_call : (s : SpaceId) {a : A} {e : Ends} → f (of x s) ≡ done a e → inAll (some s) ≡ done_all a (put x s e)
  unfolding lifted within
  lifts_call s q = rw q

  -- and the other way round
  pub record LiftedCall (s : SpaceId) (a : A) (y : Spaces) : Type 0 where
    pub ends : Ends
    pub call : f (of x s) ≡ done a ends
    pub is : y ≡ put x s ends

  pub call_of : (s : SpaceId) {a : A} {y : Spaces} → inAll (some s) ≡ done_all a y → LiftedCall s a y
  call_of s {a} q =
      let says : (f (of x s)).says ≡ ok a = sym (lifted_says (λ e. told (f e)) x s) ∙ ap (λ (t : Told Spaces A). t.says) q in
      record {
        ends = (f (of x s)).leaves;
        call = λ i. record { says = says i; leaves = (f (of x s)).leaves };
        is = ap (λ (t : Told Spaces A). t.leaves) (sym q ∙ lifts (λ e. told (f e)) x s says);
      }

-- ---- a call of the code, by what its step says of one space

module _ {A B : Type 0} (step : Space → Result A Refusal → Space → Type 0) (f : Ends → Call B) (x : Record) where
  -- each of the code's answers says one of the paper's, and what is said of a space is said of the record
  pub calls_lift : (say : Result A Refusal → Answer B) (o : math.Option SpaceId) (r : Result A Refusal) (y : Record)
      → say (Err refusal.Argument) ≡ no 14 → ((a : A) → (b : B) × (say (Ok a) ≡ ok b)) → ((why : Refusal) → (k : ℕ) × (say (Err why) ≡ no k))
      → ((s t : Space) → step s r t → record { says = say r; leaves = ends_of t } ≡ f (ends_of s))
      → Calls step o x r y → record { says = say r; leaves = spaces_of y } ≡ lifted (λ e. told (f e)) o (spaces_of x)
  unfolding lifted within
  calls_lift say math.none r y z v w h (q, e) = rw (q, e, z)
  calls_lift say (math.some id) (Ok a) y z v w h (s, t, q, p, e) =
      let u : record { says = say (Ok a); leaves = ends_of t } ≡ f (ends_of s) = h s t p in
      rw (← q, ← u, (v a).1, e)
  calls_lift say (math.some id) (Err why) y z v w h (s, t, q, p, e) =
      let u : record { says = say (Err why); leaves = ends_of t } ≡ f (ends_of s) = h s t p in
      rw (← q, ← u, (w why).1, e)

-- what the code's answers say, beside the record afterwards
abbrev pub sent_says : Result (FullNumber × CutNumber) Refusal → Answer Packet
sent_says (Ok (n, c)) = ok (record { number = n.0; carries = c })
sent_says (Err why) = no (number_of why)

pub sent_is : (r : Result (FullNumber × CutNumber) Refusal) (s : Space) → record { says = sent_says r; leaves = ends_of s } ≡ sent_of r s
unfolding sent_of
sent_is (Ok p) s = refl
sent_is (Err why) s = refl

pub sent_all_is : (r : Result (FullNumber × CutNumber) Refusal) (x : Record) → sent_all_of r x ≡ record { says = sent_says r; leaves = spaces_of x }
unfolding sent_all_of
sent_all_is (Ok p) x = refl
sent_all_is (Err why) x = refl

abbrev pub kept_says : Result Unit Refusal → Answer Unit
kept_says (Ok u) = ok tt
kept_says (Err why) = no (number_of why)

pub kept_is : (r : Result Unit Refusal) (s : Space) → record { says = kept_says r; leaves = ends_of s } ≡ kept_of r s
unfolding kept_of
kept_is (Ok u) s = refl
kept_is (Err why) s = refl

pub kept_all_is : (r : Result Unit Refusal) (x : Record) → kept_all_of r x ≡ record { says = kept_says r; leaves = spaces_of x }
unfolding kept_all_of
kept_all_is (Ok u) x = refl
kept_all_is (Err why) x = refl
