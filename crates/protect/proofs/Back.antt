-- What the sender masks the receiver unmasks, and no other byte changes.
use Prim.Native.Nat.{ℕ, zero, suc, ◌+◌, ◌-◌, ◌/◌, ◌<◌, ◌≤◌}
use mathlib.Core.Path.{◌≡◌, refl, ap, ap₂, ◌∙◌}
use mathlib.Core.List.{List, [], ◌∷◌}
use mathlib.Core.Bool.{Bool, true, false}
use mathlib.Core.Option.{some}
use native.Mathlib.Nat.{not-suc-le-zero, le_of_suc-le-suc}
use native.Mathlib.Omega.{arith}
use lib.Bits.{bit_xor, xor_shr, xor_zero_r}
use lib.ListN.{length, drop, get_or, length-take}
use borrow.Author.Tests.{le-leb}
use Rattle.coding.specs.Words.{ok, max_datagram}
use Rattle.coding.specs.Bytes.{byte_at}
use Rattle.shared.specs.FirstByte.{long_header_form}
use Rattle.number.specs.Cutting.{tag_length, first_cut}
use Rattle.protect.specs.Protection.{xor, xor_at, number_mask, first_mask, masked, applied, removed}
use Rattle.protect.specs.Tests.{has_sample, form_bit, header_tests}
use Rattle.protect.specs.Steps.{opened_by, opened, finish_at, finished, mask_at, read_off}
use Rattle.protect.proofs.Xor.{xor_twice, xor_back, xor_past}
use Rattle.protect.proofs.Cases.{first_masked, length_masked, finish_ok, mask_ok, tests_room, tests_size}

-- ---- bytes XORed over those from a place on: twice, and elsewhere

xor_nil : (ms : List ℕ) → xor ms [] ≡ []
unfolding xor
xor_nil [] = refl
xor_nil (m ∷ ms) = refl

xor_at_back : (at : ℕ) (ms l : List ℕ) → xor_at at ms (xor_at at ms l) ≡ l
unfolding xor_at xor
xor_at_back zero ms l = xor_back ms l
xor_at_back (suc at) [] [] = refl
xor_at_back (suc at) (m ∷ ms) [] = refl
xor_at_back (suc at) ms (b ∷ l) = ap (λ (r : List ℕ). b ∷ r) (xor_at_back at ms l)

xor_at_before : (at : ℕ) (ms l : List ℕ) (i : ℕ) → i < at → get_or (xor_at at ms l) i 0 ≡ get_or l i 0
unfolding xor_at
xor_at_before zero ms l i h = absurd (not-suc-le-zero h)
xor_at_before (suc at) ms [] i h = ap (λ (l : List ℕ). get_or l i 0) (xor_nil ms)
xor_at_before (suc at) ms (b ∷ l) zero h = refl
xor_at_before (suc at) ms (b ∷ l) (suc i) h = xor_at_before at ms l i (le_of_suc-le-suc h)

xor_at_past : (at : ℕ) (ms l : List ℕ) (i : ℕ) → at + length ms ≤ i → get_or (xor_at at ms l) i 0 ≡ get_or l i 0
unfolding xor_at
xor_at_past zero ms l i h = xor_past ms l i (omega arith)
xor_at_past (suc at) ms [] i h = ap (λ (l : List ℕ). get_or l i 0) (xor_nil ms)
xor_at_past (suc at) ms (b ∷ l) zero h = absurd (omega arith)
xor_at_past (suc at) ms (b ∷ l) (suc i) h = xor_at_past at ms l i (omega arith)

-- ---- no byte changes but the first and the number's

module _ (long : Bool) (mask : List ℕ) (at n : ℕ) where
  pub same_before : (packet : List ℕ) (i : ℕ) → 1 ≤ i → i < at → byte_at (masked long mask at n packet) i ≡ byte_at packet i
  unfolding masked
  same_before packet i h k = xor_at_before at _ _ i k ∙ xor_at_past 0 (first_mask long (byte_at mask 0) ∷ []) packet i h

  pub same_past : (packet : List ℕ) (i : ℕ) → 1 ≤ at → at + n ≤ i → byte_at (masked long mask at n packet) i ≡ byte_at packet i
  unfolding masked
  same_past packet i h k =
      let l : length (number_mask n mask) ≤ n = simp length-take (omega arith) in
      xor_at_past at (number_mask n mask) _ i (omega arith) ∙ xor_at_past 0 (first_mask long (byte_at mask 0) ∷ []) packet i (omega arith)

  masked_back : (packet : List ℕ) → 1 ≤ at → 0 < length packet → masked long mask at n (masked long mask at n packet) ≡ packet
  unfolding masked xor_at xor
  masked_back [] h k = absurd (not-suc-le-zero k)
  masked_back (b ∷ l) h k = go at h
    where
      m : ℕ
      m = first_mask long (byte_at mask 0)

      go : (at : ℕ) → 1 ≤ at → xor_at at (number_mask n mask) (xor_at 0 (m ∷ []) (xor_at at (number_mask n mask) (xor_at 0 (m ∷ []) (b ∷ l)))) ≡ b ∷ l
      go zero h = absurd (not-suc-le-zero h)
      go (suc a) h = ap₂ (λ (x : ℕ) (r : List ℕ). x ∷ r) (xor_twice b m) (xor_at_back a (number_mask n mask) l)

-- ---- unmasking undoes masking

-- the bits that the mask leaves alone have the form
form_kept : (long : Bool) (b m : ℕ) → bit_xor b (first_mask long m) / long_header_form ≡ b / long_header_form
form_kept long b m = xor_shr b (first_mask long m) 7 ∙ rw (small long) (xor_zero_r (b / long_header_form))
  where
    small : (long : Bool) → first_mask long m / long_header_form ≡ 0
    small true = omega arith
    small false = omega arith

module _ (long : Bool) (mask : List ℕ) (at : ℕ) (packet : List ℕ) (h : 1 ≤ at) (k : 0 < length packet) where
  applied_first : byte_at (applied long mask at packet) 0 ≡ bit_xor (byte_at packet 0) (first_mask long (byte_at mask 0))
  unfolding applied
  applied_first = first_masked long mask at _ packet h k

  pub removed_applied : removed long mask at (applied long mask at packet) ≡ packet
  unfolding removed applied
  removed_applied =
      let m : ℕ = first_mask long (byte_at mask 0) in
      let b : bit_xor (byte_at (applied long mask at packet) 0) m ≡ byte_at packet 0 = ap (λ (x : ℕ). bit_xor x m) applied_first ∙ xor_twice (byte_at packet 0) m in
      ap (λ (x : ℕ). masked long mask at (tag_length x) (applied long mask at packet)) b ∙ masked_back long mask at (tag_length (byte_at packet 0)) packet h k

  pub applied_form : byte_at (applied long mask at packet) 0 / long_header_form ≡ byte_at packet 0 / long_header_form
  applied_form = ap (λ (x : ℕ). x / long_header_form) applied_first ∙ form_kept long (byte_at packet 0) (byte_at mask 0)

  pub length_applied : length (applied long mask at packet) ≡ length packet
  unfolding applied
  length_applied = length_masked long mask at _ packet

-- mask, then finish: what a header with a number of k bytes was sent as, and what comes of it
pub record ThereAndBack (header_len k : ℕ) (has_length : Bool) (packet mask : List ℕ) : Type 0 where
  pub sent : List ℕ
  pub masks : mask_at header_len (some k) has_length packet mask ≡ ok sent
  pub finishes : finish_at true has_length sent (header_len - k) mask ≡ ok packet
  pub says : read_off (finished true has_length (header_len - k)) (finish_at true has_length sent (header_len - k) mask) ≡ ok (opened has_length (header_len - k) packet)

-- where the header passes its tests, the packet reaches its number offset + 20, and its first byte has its form
pub there_and_back : (header_len k : ℕ) (has_length : Bool) (packet mask : List ℕ) → header_tests header_len (some k) has_length (length packet) ≡ true
    → header_len - k + 20 ≤ length packet → byte_at packet 0 / long_header_form ≡ form_bit has_length → ThereAndBack header_len k has_length packet mask
unfolding read_off finished
there_and_back header_len k has_length packet mask t h f =
    let at : ℕ = header_len - k in
    let one : 1 ≤ at = omega (arith, tests_room header_len k (length packet) has_length (some k) refl t) in
    let some' : 0 < length packet = omega arith in
    let l : length (applied has_length mask at packet) ≡ length packet = length_applied has_length mask at packet one some' in
    let s : has_sample (length packet) at ≡ true = le-leb (at + 4 + 16) (length packet) (omega arith) in
    let s' : has_sample (length (applied has_length mask at packet)) at ≡ true = le-leb (at + 4 + 16) _ (omega arith) in
    let f' : byte_at (applied has_length mask at packet) 0 / long_header_form ≡ form_bit has_length = applied_form has_length mask at packet one some' ∙ f in
    let big : length (applied has_length mask at packet) ≤ max_datagram = omega (arith, tests_size header_len (length packet) has_length (some k) t) in
    let fin : finish_at true has_length (applied has_length mask at packet) at mask ≡ ok packet =
    finish_ok has_length (applied has_length mask at packet) at mask big (λ z. omega arith) s' f' ∙ ap ok (removed_applied has_length mask at packet one some') in
    record { sent = applied has_length mask at packet; masks = mask_ok header_len k has_length packet mask t s f; finishes = fin; says = rw fin }

-- the number that finish then answers is the one that was written, where the first byte has its length
pub number_back : (has_length : Bool) (at k : ℕ) (packet : List ℕ) → tag_length (byte_at packet 0) ≡ k
    → opened has_length at packet ≡ opened_by has_length (byte_at packet 0) (first_cut k (drop at packet))
unfolding opened
number_back has_length at k packet e = ap (λ (j : ℕ). opened_by has_length (byte_at packet 0) (first_cut j (drop at packet))) e
