-- A refused call leaves the whole record; any call looks at its own space alone, and leaves the others as they were; calls with no
-- space in common give the same in either order; and a kind has the space of its header.
use Prim.Native.Nat.{ℕ}
use mathlib.Core.Path.{◌≡◌, refl, sym, ap, ◌∙◌}
use mathlib.Core.Option.{Option, none, some}
use Rattle.coding.specs.Words.{Answer, no, ok}
use Rattle.packet.specs.Header.{Header, initial, zero_rtt, handshake, retry, short, negotiate, space_in}
use Rattle.packet.specs.Said.{space_of}
use Rattle.packet.specs.declared.header.SpaceId.{SpaceId}
use Rattle.protect.specs.declared.Kind.{Kind}
use Rattle.protect.specs.declared.Kind.TheVariants as kind
use Rattle.shared.specs.declared.kinds.CutNumber.{CutNumber}
use Rattle.spaces.specs.Each.{Each, of, space_for}
use Rattle.spaces.specs.Calls.{Spaces, Told, within, lifted, read_call, read_in}
use Rattle.spaces.specs.Said.{id_in}
use Rattle.spaces.proofs.Lifts.{lifts_no, lifts, lifted_says}
use Rattle.spaces.proofs.Puts.{put_same, put_other, put_swap, put_back}

-- ---- one call: "A call in one space leaves the other two as they were"

module _ {E A : Type 0} (f : E → Told E A) where
  pub refused_stays : (o : Option SpaceId) (x : Each E) {k : ℕ} → (lifted f o x).says ≡ no k → (lifted f o x).leaves ≡ x
  unfolding lifted
  refused_stays none x q = refl
  refused_stays (some s) x q = ap (λ (t : Told (Each E) A). t.leaves) (lifts_no f x s (sym (lifted_says f x s) ∙ q))

  pub others_stay : (o : Option SpaceId) (x : Each E) (t : SpaceId) → (o ≡ some t → ⊥) → of (lifted f o x).leaves t ≡ of x t
  unfolding lifted
  others_stay none x t n = refl
  others_stay (some s) x t n = go (f (of x s)).says refl
    where
      go : (b : Answer A) → (f (of x s)).says ≡ b → of (lifted f (some s) x).leaves t ≡ of x t
      go (no j) r = rw (lifts_no f x s r)
      go (ok a) r = rw (lifts f x s r) (put_other x s t (f (of x s)).leaves (λ e. n (ap some e)))

  -- a call looks at its own space alone
  pub record SameIn (s : SpaceId) (x y : Told (Each E) A) : Type 0 where
    pub says : x.says ≡ y.says
    pub leaves : of x.leaves s ≡ of y.leaves s

  pub looks_at_one : (s : SpaceId) (x y : Each E) → of x s ≡ of y s → SameIn s (lifted f (some s) x) (lifted f (some s) y)
  looks_at_one s x y e = record { says = lifted_says f x s ∙ ap (λ (u : E). (f u).says) e ∙ sym (lifted_says f y s); leaves = go (f (of x s)).says refl }
    where
      go : (b : Answer A) → (f (of x s)).says ≡ b → of (lifted f (some s) x).leaves s ≡ of (lifted f (some s) y).leaves s
      go (no j) r = rw (lifts_no f x s r, lifts_no f y s (sym (ap (λ (u : E). (f u).says) e) ∙ r)) e
      go (ok a) r =
          rw (lifts f x s r, lifts f y s (sym (ap (λ (u : E). (f u).says) e) ∙ r), put_same x s (f (of x s)).leaves, put_same y s (f (of y s)).leaves, e)

  -- a call that leaves its space as it was leaves the record, refused or not
  pub same_stays : ((e : E) → (f e).leaves ≡ e) → (o : Option SpaceId) (x : Each E) → (lifted f o x).leaves ≡ x
  unfolding lifted
  same_stays h none x = refl
  same_stays h (some s) x = go (f (of x s)).says refl
    where
      go : (b : Answer A) → (f (of x s)).says ≡ b → (lifted f (some s) x).leaves ≡ x
      go (no j) r = rw (lifts_no f x s r)
      go (ok a) r = rw (lifts f x s r, h (of x s)) (put_back x s)

-- a reading is such a call
pub read_stays : (x : Spaces) (k : Kind) (c : CutNumber) → (read_in x k c).leaves ≡ x
read_stays x k c = same_stays (read_call c) (λ e. refl) (space_for k) x

-- ---- two calls: "calls in different spaces give the same state in either order"

-- what two calls one after the other say, and what they leave
pub record Both (S A B : Type 0) : Type 0 where
  pub first : Answer A
  pub second : Answer B
  pub leaves : S

module _ {E A B : Type 0} (f : E → Told E A) (g : E → Told E B) (o p : Option SpaceId) (x : Each E) where
  abbrev pub forth : Both (Each E) A B
  forth =
      record {
        first = (lifted f o x).says;
        second = (lifted g p (lifted f o x).leaves).says;
        leaves = (lifted g p (lifted f o x).leaves).leaves;
      }

  abbrev pub back : Both (Each E) A B
  back =
      record {
        first = (lifted f o (lifted g p x).leaves).says;
        second = (lifted g p x).says;
        leaves = (lifted f o (lifted g p x).leaves).leaves;
      }

-- the same record and the same two answers
pub either_order : {E A B : Type 0} (f : E → Told E A) (g : E → Told E B) (o p : Option SpaceId) (x : Each E)
    → ((s : SpaceId) → o ≡ some s → p ≡ some s → ⊥) → forth f g o p x ≡ back f g o p x
unfolding lifted within
either_order f g none p x n = refl
either_order f g (some s) none x n = refl
either_order {E} {A} {B} f g (some s) (some t) x n = go (f (of x s)).says refl (g (of x t)).says refl
  where
    apart : s ≡ t → ⊥
    apart e = n s refl (ap some (sym e))

    apart' : t ≡ s → ⊥
    apart' e = n s refl (ap some e)

    go : (a : Answer A) → (f (of x s)).says ≡ a → (b : Answer B) → (g (of x t)).says ≡ b → forth f g (some s) (some t) x ≡ back f g (some s) (some t) x
    go (no j) q (no k) r = rw (q, r, q)
    go (no j) q (ok b) r = rw (q, r, put_other x t s _ apart', q)
    go (ok a) q (no k) r = rw (q, r, q, put_other x s t _ apart, r)
    go (ok a) q (ok b) r = rw (q, r, put_other x s t _ apart, put_other x t s _ apart', q, r, put_swap x s t _ _ apart)

-- ---- kind to space is the header's map

abbrev pub kind_in : Header → Kind
kind_in (initial token len) = kind.Initial
kind_in (zero_rtt len) = kind.ZeroRtt
kind_in (handshake len) = kind.Handshake
kind_in retry = kind.Retry
kind_in (short spin) = kind.Short
kind_in (negotiate bits) = kind.VersionNegotiate

pub as_header : (h : Header) → space_of (id_in (space_for (kind_in h))) ≡ space_in (ok h)
as_header (initial token len) = refl
as_header (zero_rtt len) = refl
as_header (handshake len) = refl
as_header retry = refl
as_header (short spin) = refl
as_header (negotiate bits) = refl
