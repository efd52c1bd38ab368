-- The cases of finish and the mask step, each from the tests that lead to it.
use Prim.Native.Nat.{ℕ, zero, suc, ◌+◌, ◌-◌, ◌/◌, ◌%◌, ◌<◌, ◌≤◌}
use mathlib.Core.Path.{◌≡◌, refl, sym, ap, ◌∙◌}
use mathlib.Core.List.{List, [], ◌∷◌}
use mathlib.Core.Bool.{Bool, true, false, ◌&&◌}
use mathlib.Core.Option.{Option, none, some}
use native.Mathlib.Nat.{not-suc-le-zero}
use native.Mathlib.Omega.{arith}
use lib.Bits.{bit_and, bit_xor}
use lib.Dec.{leb, eqb}
use lib.ListN.{length, drop, set, length-drop, length-set}
use borrow.Author.Tests.{le-ltb, eq-eqb, ne_eqb, leb-true, eqb-true}
use Rattle.coding.specs.Words.{Answer, no, ok, max_datagram}
use Rattle.coding.specs.Bytes.{byte_at}
use Rattle.shared.specs.FirstByte.{long_header_form, long_reserved_bits, short_reserved_bits, key_phase_bit}
use Rattle.shared.specs.declared.kinds.CutNumber.{CutNumber}
use Rattle.number.specs.Cutting.{tag_length, first_cut}
use Rattle.protect.specs.Protection.{xor, xor_at, first_mask, number_mask, masked, applied, removed}
use Rattle.std.specs.Prelude.{if◌then◌else◌}
use Rattle.protect.specs.Tests.{in_size, has_sample, maskable, form_bit, number_fits, least_header, header_tests}
use Rattle.protect.specs.Steps.{read_off, left_by, Changed, Opened, opened_by, opened, open_at, Opens, finish_at, protect_at, mask_number, mask_at}
use Rattle.protect.specs.Said.{opened_of}
use Rattle.protect.specs.declared.Finished.TheVariants as fin
use Rattle.protect.proofs.Xor.{length_xor_at}
use Rattle.protect.proofs.Parts.{first_stored}
use Rattle.protect.proofs.Inside.{four_left}

-- ---- what can be masked

-- a test that a function of its own made, by what the code saw of it
pub told : {A : Type 0} {r t v : A} → r ≡ t → r ≡ v → t ≡ v
told {r} e h = sym e ∙ h

-- and of a test that failed
pub denied : {r t : Bool} → r ≡ t → r ≡ false → t ≡ false
denied = told

-- rule 8 has passed
pub reaches : {r : Bool} (len at : ℕ) → r ≡ has_sample len at → r ≡ true → at + 20 ≤ len
reaches {r} len at e h = omega (arith, leb-true (at + 4 + 16) len (told e h))

-- what the two tests make of a packet that is changed
abbrev then_ok : Answer (Unit {0}) → List ℕ → Answer (List ℕ)
then_ok (no k) new = no k
then_ok (ok u) new = ok new

tests_as : (new : List ℕ) (s f : Bool) → (if s then (if f then ok new else no 14) else no 8) ≡ then_ok (if s then (if f then ok tt else no 14) else no 8) new
tests_as new true true = refl
tests_as new true false = refl
tests_as new false f = refl

module _ (long : Bool) (packet : List ℕ) (at : ℕ) where
  pub record Maskable : Type 0 where
    pub sampled : has_sample (length packet) at ≡ true
    pub room : at + 20 ≤ length packet
    pub form : byte_at packet 0 / long_header_form ≡ form_bit long

  pub maskable_is : ok tt ≡ maskable long packet at → Maskable
  unfolding maskable
  maskable_is e = go (has_sample (length packet) at) refl (eqb (byte_at packet 0 / long_header_form) (form_bit long)) refl
    where
      go : (s : Bool) → has_sample (length packet) at ≡ s → (f : Bool) → eqb (byte_at packet 0 / long_header_form) (form_bit long) ≡ f → Maskable
      go true s true f = record { sampled = s; room = reaches (length packet) at refl s; form = eqb-true _ _ f }
      go true s false f = let q : ok tt ≡ no 14 = e ∙ simp (s, f) in absurd cc
      go false s f g = let q : ok tt ≡ no 8 = e ∙ simp s in absurd cc

-- ---- a call that changes a packet refuses, or has changed it

module _ {A : Type 0} (read : List ℕ → A) (old : List ℕ) {w : Answer (List ℕ)} where
  pub changed_no : {k : ℕ} → w ≡ no k → Changed read w old (no k) old
  unfolding read_off left_by
  changed_no e = record { says = rw e; leaves = rw e }

  pub changed_ok : {said : Answer A} {new : List ℕ} → w ≡ ok new → said ≡ ok (read new) → Changed read w old said new
  unfolding read_off left_by
  changed_ok e f = record { says = rw e f; leaves = rw e }

-- ---- the masked packet

pub length_masked : (long : Bool) (mask : List ℕ) (at n : ℕ) (packet : List ℕ) → length (masked long mask at n packet) ≡ length packet
unfolding masked
length_masked long mask at n packet = length_xor_at at _ _ ∙ length_xor_at 0 _ packet

pub first_masked : (long : Bool) (mask : List ℕ) (at n : ℕ) (packet : List ℕ) → 1 ≤ at → 0 < length packet
    → byte_at (masked long mask at n packet) 0 ≡ bit_xor (byte_at packet 0) (first_mask long (byte_at mask 0))
unfolding masked xor_at xor
first_masked long mask zero n packet h k = absurd (not-suc-le-zero h)
first_masked long mask (suc at) n [] h k = absurd (not-suc-le-zero k)
first_masked long mask (suc at) n (b ∷ l) h k = refl

-- ---- finish

-- what is said of a long and of a short packet
module _ (first : ℕ) (number : CutNumber) where
  pub said_long : opened_of (fin.Long number (eqb (bit_and first long_reserved_bits) 0)) ≡ opened_by true first number
  unfolding opened_of opened_by
  said_long = refl

  pub said_short : opened_of (fin.Short number (eqb (bit_and first short_reserved_bits) 0) (eqb (first / key_phase_bit % 2) 1)) ≡ opened_by false first number
  unfolding opened_of opened_by
  said_short = refl

-- the mask takes none of the number's bytes away
pub still_left : (packet ms : List ℕ) (at b : ℕ) {new : List ℕ} → has_sample (length packet) at ≡ true → new ≡ xor_at at ms (set packet 0 b) → at + 4 ≤ length new
still_left packet ms at b {new} k e =
    let l : length new ≡ length packet = ap length e ∙ length_xor_at at ms (set packet 0 b) ∙ length-set packet 0 b in
    omega (arith, l, four_left packet at k, length-drop at packet)

module _ (long : Bool) (packet : List ℕ) (at : ℕ) (mask : List ℕ) where
  pub open_zero : at ≡ 0 → open_at long packet at mask ≡ no 14
  unfolding open_at
  open_zero h = rw (eq-eqb at 0 h)

  module _ (h : at ≡ 0 → ⊥) where
    pub open_no : {k : ℕ} → no k ≡ maskable long packet at → open_at long packet at mask ≡ no k
    unfolding open_at maskable
    open_no e = rw (ne_eqb at 0 h) (tests_as (removed long mask at packet) _ _ ∙ ap (λ (a : Answer (Unit {0})). then_ok a (removed long mask at packet)) (sym e))

    module _ (k : has_sample (length packet) at ≡ true) where
      module _ (f : byte_at packet 0 / long_header_form ≡ form_bit long) where
        reach : at + 20 ≤ length packet
        reach = omega (arith, leb-true (at + 4 + 16) (length packet) k)

        pub open_ok : open_at long packet at mask ≡ ok (removed long mask at packet)
        unfolding open_at
        open_ok = rw (ne_eqb at 0 h, k, eq-eqb (byte_at packet 0 / long_header_form) (form_bit long) f)

        module _ (m n : ℕ) (new : List ℕ) (em : m ≡ first_mask long (byte_at mask 0)) (en : n ≡ tag_length (bit_xor (byte_at packet 0) m))
            (e₀ : new ≡ xor_at at (number_mask n mask) (set packet 0 (bit_xor (byte_at packet 0) m))) where
          e : new ≡ masked long mask at n packet
          e = e₀ ∙ first_stored long mask at n m packet (omega (arith, reach)) em

          is_removed : new ≡ removed long mask at packet
          unfolding removed
          is_removed = e ∙ ap (λ (j : ℕ). masked long mask at j packet) (en ∙ ap (λ (x : ℕ). tag_length (bit_xor (byte_at packet 0) x)) em)

          pub open_done : (said : Answer Opened) → said ≡ ok (opened_by long (bit_xor (byte_at packet 0) m) (first_cut n (drop at new))) → Opens long packet at mask said new
          unfolding opened
          open_done said s =
              let b : byte_at new 0 ≡ bit_xor (byte_at packet 0) m =
              ap (λ (l : List ℕ). byte_at l 0) e
              ∙ first_masked long mask at n packet (omega (arith, reach)) (omega (arith, reach))
              ∙ ap (bit_xor (byte_at packet 0)) (sym em) in
              changed_ok (opened long at) packet (open_ok ∙ ap ok (sym is_removed)) (s ∙ rw (b, ← en))

-- ---- the header's tests

and_left : (a b : Bool) → (a && b) ≡ true → a ≡ true
and_left true b h = refl
and_left false b h = h

and_right : (a b : Bool) → (a && b) ≡ true → b ≡ true
and_right true b h = h
and_right false b h = let z : ◌≡◌ {A = ℕ} 0 1 = cc in absurd (omega arith)

-- what a header that passes has
pub tests_room : (header_len k len : ℕ) (has_length : Bool) (number : Option ℕ)
    → number ≡ some k → header_tests header_len number has_length len ≡ true → 1 + k ≤ header_len
unfolding header_tests
tests_room header_len k len has_length number e t =
    let h : header_tests header_len (some k) has_length len ≡ true = rw e at t in
    least has_length (leb-true (least_header (some k) has_length) header_len (and_right (leb len max_datagram && leb header_len len && number_fits (some k)) _ h))
  where
    least : (b : Bool) → least_header (some k) b ≤ header_len → 1 + k ≤ header_len
    least true h = omega arith
    least false h = h

pub tests_size : (header_len len : ℕ) (has_length : Bool) (number : Option ℕ) → header_tests header_len number has_length len ≡ true → len ≤ max_datagram
unfolding header_tests
tests_size header_len len has_length number h =
    let a = and_left (leb len max_datagram && leb header_len len && number_fits number) _ h in
    let b = and_left (leb len max_datagram && leb header_len len) (number_fits number) a in
    leb-true len max_datagram (and_left (leb len max_datagram) (leb header_len len) b)

-- ---- finish of any kind, and the mask step

pub finish_ok : (long : Bool) (packet : List ℕ) (at : ℕ) (mask : List ℕ) → length packet ≤ max_datagram → (at ≡ 0 → ⊥) → has_sample (length packet) at ≡ true
    → byte_at packet 0 / long_header_form ≡ form_bit long → finish_at true long packet at mask ≡ ok (removed long mask at packet)
unfolding finish_at in_size
finish_ok long packet at mask h z k f = rw (le-ltb max_datagram (length packet) h) (open_ok long packet at mask z k f)

module _ (long : Bool) (packet : List ℕ) (at : ℕ) (mask : List ℕ) where
  pub protect_no : {k : ℕ} → no k ≡ maskable long packet at → protect_at long packet at mask ≡ no k
  unfolding protect_at maskable
  protect_no e = tests_as (applied long mask at packet) _ _ ∙ ap (λ (a : Answer (Unit {0})). then_ok a (applied long mask at packet)) (sym e)

  module _ (k : has_sample (length packet) at ≡ true) (f : byte_at packet 0 / long_header_form ≡ form_bit long) where
    pub protect_ok : protect_at long packet at mask ≡ ok (applied long mask at packet)
    unfolding protect_at
    protect_ok = rw (k, eq-eqb (byte_at packet 0 / long_header_form) (form_bit long) f)

    pub protect_done : {n m : ℕ} {new : List ℕ} → m ≡ first_mask long (byte_at mask 0) → n ≡ tag_length (byte_at packet 0)
        → new ≡ xor_at at (number_mask n mask) (set packet 0 (bit_xor (byte_at packet 0) m)) → protect_at long packet at mask ≡ ok new
    unfolding applied
    protect_done {n} {m} em en ep =
        let h : 0 < length packet = omega (arith, leb-true (at + 4 + 16) (length packet) k) in
        protect_ok ∙ ap ok (sym (ep ∙ first_stored long mask at n m packet h em ∙ ap (λ (j : ℕ). masked long mask at j packet) en))

pub mask_none : (header_len : ℕ) (number : Option ℕ) (has_length : Bool) (packet mask : List ℕ) → header_tests header_len number has_length (length packet) ≡ true
    → number ≡ none → mask_at header_len number has_length packet mask ≡ ok packet
unfolding mask_at mask_number
mask_none header_len number has_length packet mask h e = rw (h, e)

pub mask_ok : (header_len k : ℕ) (has_length : Bool) (packet mask : List ℕ) → header_tests header_len (some k) has_length (length packet) ≡ true
    → has_sample (length packet) (header_len - k) ≡ true → byte_at packet 0 / long_header_form ≡ form_bit has_length
    → mask_at header_len (some k) has_length packet mask ≡ ok (applied has_length mask (header_len - k) packet)
unfolding mask_at mask_number
mask_ok header_len k has_length packet mask t s f = rw t (protect_ok has_length packet (header_len - k) mask s f)
