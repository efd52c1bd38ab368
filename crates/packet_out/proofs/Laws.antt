-- The cases of what is written, each from the tests that lead to it.
use Rattle.std.specs.Prelude.{if◌then◌else◌, Result, Err}
use Prim.Native.Nat.{ℕ, ◌+◌, ◌-◌, ◌^◌, ◌≤◌, ◌<◌}
use mathlib.Core.Path.{◌≡◌, refl, sym, ap, ◌∙◌}
use mathlib.Core.List.{List, ◌∷◌, ◌++◌}
use mathlib.Core.Bool.{Bool, true, false, ◌&&◌}
use mathlib.Core.Option.{Option, none, some}
use native.Mathlib.Omega.{arith}
use Rattle.std.proofs.Math.Bool.{and-false}
use Rattle.std.specs.Cmp.{first_so, second_so}
use lib.ListN.{length, replicate, length-append}
use lib.Dec.{leb}
use borrow.Author.Tests.{le-leb, lt-leb, leb-true, leb-false, ltb-true, lt-ltb, le-ltb}
use Rattle.coding.specs.Words.{Answer, no, ok}
use Rattle.coding.specs.Bytes.{splice}
use Rattle.coding.specs.Varint.{var_size}
use Rattle.coding.specs.Writing.{Written}
use Rattle.coding.proofs.Writes.{written_no}
use Rattle.coding.specs.declared.refusal.Refusal.{Refusal}
use Rattle.coding.specs.Refusals.{number_of}
use Rattle.packet_out.specs.Said.{encoded_of}
use Rattle.packet_out.specs.declared.PartialEncode.{PartialEncode}
use Rattle.coding.proofs.Laws.{length_bytes_be, length_var}
use Rattle.shared.specs.declared.cid.ConnectionId.{ConnectionId}
use Rattle.shared.specs.declared.kinds.CutNumber.{CutNumber}
use Rattle.shared.specs.Cid.{cid_of, long_bytes}
use Rattle.shared.proofs.Laws.{length_cid, length_long}
use Rattle.shared.proofs.Back.{cid_same}
use Rattle.number.specs.Cutting.{is_cut, length_bits, cut_tag}
use Rattle.number.proofs.Windows.{cut_rule}
use Rattle.packet.specs.TypeBits.{bits_of}
use Rattle.protect.specs.Tests.{number_bytes, number_fits, least_header, header_tests}
use Rattle.packet_out.specs.Encoding.{Plain, Shape, names_bytes, token_bytes, length_bytes, number_field, shape_bytes, shape_by, written_header, number_keeps, keep_rules, in_header, placeholder, plain_number, number_len_in, partial_of, EncodesAs}
use Rattle.packet_out.specs.Before.{roomy, header_before, length_fits}
use Rattle.packet_out.specs.Length.{length_field, length_into, length_set}

-- ---- a number's rule, by its tag

pub cut_short : (c : CutNumber) → is_cut c ≡ true → (1 ≤ c.0) × (c.0 ≤ 4)
cut_short c e = let w = (cut_rule c e).window in (w.low, w.high)

pub tagged : (t : ℕ) (c : CutNumber) → ok t ≡ cut_tag c → (is_cut c ≡ true) × (t ≡ length_bits c) × (t ≤ 3)
unfolding cut_tag
tagged t c = go (is_cut c) refl
  where
    go : (b : Bool) → is_cut c ≡ b → ok t ≡ (if b then ok (c.0 - 1) else no 14) → (is_cut c ≡ true) × (t ≡ length_bits c) × (t ≤ 3)
    go true k h = let e : t ≡ c.0 - 1 = cc in (k, e, omega (arith, cut_short c k))
    go false k h = let z : ◌≡◌ {A = ℕ} 0 1 = cc in absurd (omega arith)

pub untagged : (k : ℕ) (c : CutNumber) → no k ≡ cut_tag c → (k ≡ 14) × (is_cut c ≡ false)
unfolding cut_tag
untagged k c = go (is_cut c) refl
  where
    go : (b : Bool) → is_cut c ≡ b → no k ≡ (if b then ok (c.0 - 1) else no 14) → (k ≡ 14) × (is_cut c ≡ false)
    go true e h = let z : ◌≡◌ {A = ℕ} 0 1 = cc in absurd (omega arith)
    go false e h = (cc, e)

-- ---- the rules that are kept

pub record Kept (number : Option CutNumber) (dst src : ConnectionId) : Type 0 where
  pub to : dst.len ≤ 20
  pub from : src.len ≤ 20
  pub cut : number_keeps number ≡ true

pub kept : (number : Option CutNumber) (dst src : ConnectionId) → keep_rules number dst src ≡ true → Kept number dst src
unfolding keep_rules
kept number dst src = go (leb dst.len 20) (leb src.len 20) (number_keeps number) refl refl refl
  where
    go : (a b d : Bool) → leb dst.len 20 ≡ a → leb src.len 20 ≡ b → number_keeps number ≡ d → (a && b && d) ≡ true → Kept number dst src
    go true true true p q s h = record { to = leb-true _ _ p; from = leb-true _ _ q; cut = s }
    go true true false p q s h = let z : ◌≡◌ {A = ℕ} 0 1 = cc in absurd (omega arith)
    go true false d p q s h = let z : ◌≡◌ {A = ℕ} 0 1 = cc in absurd (omega arith)
    go false b d p q s h = let z : ◌≡◌ {A = ℕ} 0 1 = cc in absurd (omega arith)

-- and the facts that they are made of
pub keeps : (number : Option CutNumber) (dst src : ConnectionId) → dst.len ≤ 20 → src.len ≤ 20 → number_keeps number ≡ true → keep_rules number dst src ≡ true
unfolding keep_rules
keeps number dst src a b k = rw (le-leb _ _ a, le-leb _ _ b, k)

pub keeps_not : (number : Option CutNumber) (dst src : ConnectionId) → number_keeps number ≡ false → keep_rules number dst src ≡ false
unfolding keep_rules
keeps_not number dst src k = rw (k, and-false)

-- ---- lengths

module _ (dst src : ConnectionId) (to : dst.len ≤ length dst.bytes) where
  pub length_short : length (names_bytes none dst src) ≡ dst.len
  unfolding names_bytes
  length_short = length_cid dst to

  pub length_names : (v : ℕ) → src.len ≤ length src.bytes → length (names_bytes (some v) dst src) ≡ 4 + 1 + dst.len + 1 + src.len
  unfolding names_bytes
  length_names v from = simp (length-append, length_bytes_be, length_long dst to, length_long src from) (omega arith)

-- of lent connection ids
cid_room : (bs : List ℕ) → length bs ≤ length (bs ++ replicate (20 - length bs) 0)
cid_room bs = let zeros : List ℕ = replicate (20 - length bs) 0 in omega (arith, length-append bs zeros)

module _ (dst src : List ℕ) where
  pub lent_short : length (names_bytes none (cid_of dst) (cid_of src)) ≡ length dst
  unfolding cid_of
  lent_short = length_short (cid_of dst) (cid_of src) (cid_room dst)

  pub lent_names : (v : ℕ) → length (names_bytes (some v) (cid_of dst) (cid_of src)) ≡ 4 + 1 + length dst + 1 + length src
  unfolding cid_of
  lent_names v = length_names (cid_of dst) (cid_of src) (cid_room dst) v (cid_room src)

pub lent_long : (bs : List ℕ) → long_bytes (cid_of bs) ≡ length bs ∷ bs
unfolding long_bytes cid_of
lent_long bs = ap (λ (l : List ℕ). length bs ∷ l) (cid_same bs)

pub length_token : (token : List ℕ) → length (token_bytes true token) ≡ var_size (length token) + length token
unfolding token_bytes
length_token token = simp (length-append, length_var)

-- a number that keeps its rule has at most four bytes
pub length_number : (c : CutNumber) → length (number_field (some c)) ≡ c.0
unfolding number_field
length_number c = length_bytes_be c.0 c.1

-- a number's length, by its kind
pub length_some : (number : Option CutNumber) → length (number_field number) ≡ number_bytes (number_len_in number)
unfolding number_field
length_some none = refl
length_some (some c) = length_number c

pub keeps_few : (number : Option CutNumber) → number_keeps number ≡ true → number_bytes (number_len_in number) ≤ 4
keeps_few none e = omega arith
keeps_few (some c) e = (cut_short c e).1

-- a header's
pub length_shape : (field : List ℕ) (shape : Shape) (number : Option CutNumber) (dst src : ConnectionId) (token : List ℕ)
    → length (shape_bytes field shape number dst src token)
    ≡ 1
    + (length (names_bytes shape.version dst src)
    + (length (token_bytes shape.has_token token) + (length (length_bytes shape.has_length field) + length (number_field number))))
unfolding shape_bytes
length_shape field shape number dst src token = simp length-append (omega arith)

-- it goes by the length of what stands for the Length
length_lengths : (b : Bool) (x y : List ℕ) → length x ≡ length y → length (length_bytes b x) ≡ length (length_bytes b y)
unfolding length_bytes
length_lengths true x y e = e
length_lengths false x y e = refl

pub length_fields : (x y : List ℕ) (shape : Shape) (number : Option CutNumber) (dst src : ConnectionId) (token : List ℕ) → length x ≡ length y
    → length (shape_bytes x shape number dst src token) ≡ length (shape_bytes y shape number dst src token)
length_fields x y shape number dst src token e =
    omega (arith, length_shape x shape number dst src token, length_shape y shape number dst src token, length_lengths shape.has_length x y e)

-- ---- at most 65,527 bytes, or 14

module _ {A : Type 0} (bs : List ℕ) (a : A) where
  pub header_fits : length bs ≤ 65527 → in_header bs a ≡ ok a
  unfolding in_header
  header_fits h = simp (le-leb _ _ h)

  pub header_long : 65527 < length bs → in_header bs a ≡ no 14
  unfolding in_header
  header_long h = simp (lt-leb _ _ h)

  pub fits_seen : (b : A) → ok b ≡ in_header bs a → (length bs ≤ 65527) × (a ≡ b)
  unfolding in_header
  fits_seen b = go (leb (length bs) 65527) refl
    where
      go : (t : Bool) → leb (length bs) 65527 ≡ t → ◌≡◌ {A = Answer A} (ok b) (if t then ok a else no 14) → (length bs ≤ 65527) × (a ≡ b)
      go true e h = (leb-true _ _ e, cc)
      go false e h = let z : ◌≡◌ {A = ℕ} 0 1 = cc in absurd (omega arith)

  pub long_seen : (k : ℕ) → no k ≡ in_header bs a → (65527 < length bs) × (k ≡ 14)
  unfolding in_header
  long_seen k = go (leb (length bs) 65527) refl
    where
      go : (t : Bool) → leb (length bs) 65527 ≡ t → ◌≡◌ {A = Answer A} (no k) (if t then ok a else no 14) → (65527 < length bs) × (k ≡ 14)
      go true e h = let z : ◌≡◌ {A = ℕ} 0 1 = cc in absurd (omega arith)
      go false e h = (leb-false _ _ e, cc)

-- ---- the bytes of a header, by what it has without its token

module _ (field : List ℕ) (shape : Shape) (number : Option CutNumber) (dst src : ConnectionId) (token : List ℕ) (fixed : ℕ)
    (e : fixed ≡ 1 + (length (names_bytes shape.version dst src) + (length (length_bytes shape.has_length field) + length (number_field number)))) where
  pub size_bare : shape.has_token ≡ false → length (shape_bytes field shape number dst src token) ≡ fixed
  unfolding token_bytes
  size_bare h =
      let t : length (token_bytes shape.has_token token) ≡ 0 = rw h in
      omega (arith, length_shape field shape number dst src token)

  pub size_token : shape.has_token ≡ true → length (shape_bytes field shape number dst src token) ≡ fixed + var_size (length token) + length token
  size_token h =
      let t : length (token_bytes shape.has_token token) ≡ var_size (length token) + length token = rw h (length_token token) in
      omega (arith, length_shape field shape number dst src token)

-- ---- what is written of a kind, by its shape

module _ (field : List ℕ) (p : Plain) (dst src : ConnectionId) (token : List ℕ) (n : ℕ) where
  pub out_rules : number_keeps (plain_number p) ≡ false → header_before field p dst src token n ≡ no 14
  unfolding header_before roomy
  out_rules k = rw (keeps_not (plain_number p) dst src k)

  module _ (number : Option CutNumber) (en : number ≡ plain_number p) (to : dst.len ≤ 20) (from : src.len ≤ 20) (cut : number_keeps number ≡ true)
      (shape : Shape) (es : shape ≡ shape_by bits_of p) where
    same : (x : List ℕ) → shape_bytes x shape number dst src token ≡ written_header bits_of x p dst src token
    unfolding written_header
    same x = rw (es, en)

    pub out_long : 65527 < length (shape_bytes placeholder shape number dst src token) + n → header_before field p dst src token n ≡ no 14
    unfolding header_before roomy
    out_long h = rw (← en, keeps number dst src to from cut, lt-leb _ _ (rw (same placeholder) at h))

    pub out_ok : length (shape_bytes placeholder shape number dst src token) + n ≤ 65527
        → header_before field p dst src token n ≡ ok (shape_bytes field shape number dst src token)
    unfolding header_before roomy
    out_ok h = rw (← en, keeps number dst src to from cut, le-leb _ _ (rw (same placeholder) at h)) (ap ok (sym (same field)))

-- the size that was answered: the Length's two bytes do not count otherwise
pub sized : (field : List ℕ) (dst src : ConnectionId) (token : List ℕ) (number : Option CutNumber) (shape : Shape) (len : ℕ) → length field ≡ 2
    → ok len ≡ in_header (shape_bytes placeholder shape number dst src token) (length (shape_bytes placeholder shape number dst src token))
    → (length (shape_bytes field shape number dst src token) ≡ len) × (length (shape_bytes placeholder shape number dst src token) ≡ len) × (len ≤ 65527)
sized field dst src token number shape len e q =
    let h = fits_seen _ _ len q in
    (length_fields field placeholder shape number dst src token (e ∙ sym (length_bytes_be 2 0)) ∙ h.1, h.1, rw h.1 at h.0)

-- what encode says besides the length
module _ (p : Plain) {w : Answer (List ℕ)} {old new : List ℕ} where
  pub encodes_no : {k : ℕ} → Written w old (no k) new → EncodesAs p w old (no k) new
  unfolding partial_of
  encodes_no s = record { says = ap (partial_of p) s.says; leaves = s.leaves }

  pub encodes_ok : {n : ℕ} {l : Option ℕ} {b : Bool} → l ≡ number_len_in (plain_number p) → b ≡ (shape_by bits_of p).has_length → Written w old (ok n) new
      → EncodesAs p w old (ok (record { header_len = n; number = l; has_length = b })) new
  unfolding partial_of
  encodes_ok el eb s = record { says = rw (el, eb) (ap (partial_of p) s.says); leaves = s.leaves }

-- at the exit of a `?`, of a refusal that is 14
pub refuses : (p : Plain) {w : Answer (List ℕ)} {old : List ℕ} (r : Result PartialEncode Refusal) (why : Refusal) → (x : Refusal) × (r ≡ Err x) × (x ≡ why)
    → number_of why ≡ 14 → w ≡ no 14 → EncodesAs p w old (encoded_of r) old
unfolding encoded_of
refuses p r why e k n = rw (e.1, e.2, k) (encodes_no p (written_no _ n))

-- a Length that fits its two bytes
pub length_small : (has : Bool) (n : ℕ) → has ≡ true → length_fits has n ≡ true → n < 2 ^ 14
unfolding length_fits
length_small has n e h = ltb-true n (2 ^ 14) (rw e at h)

-- ---- the Length step

-- what a header with a Length that passes the tests has
pub tests_length : (header_len len : ℕ) (number : Option ℕ) → header_tests header_len number true len ≡ true
    → (number_bytes number + 3 ≤ header_len) × (header_len ≤ len) × (len ≤ 65527)
unfolding header_tests
tests_length header_len len number h =
    let a = leb len 65527 in
    let b = leb header_len len in
    let l = leb-true (least_header number true) header_len (second_so (a && b && number_fits number) (leb (least_header number true) header_len) h) in
    let f = first_so (a && b) (number_fits number) (first_so (a && b && number_fits number) (leb (least_header number true) header_len) h) in
    (omega (arith, l), leb-true _ _ (second_so a b f), leb-true _ _ (first_so a b f))

module _ (header_len : ℕ) (number : Option ℕ) (has_length : Bool) (packet : List ℕ) where
  pub set_no : header_tests header_len number has_length (length packet) ≡ false → length_set header_len number has_length packet ≡ no 14
  unfolding length_set
  set_no h = rw h

  module _ (h : header_tests header_len number has_length (length packet) ≡ true) where
    pub set_none : has_length ≡ false → length_set header_len number has_length packet ≡ ok packet
    unfolding length_set
    set_none e = rw (h, e)

    pub set_on : (k : ℕ) → k ≡ number_bytes number → has_length ≡ true → length_set header_len number has_length packet ≡ length_into header_len k packet
    unfolding length_set
    set_on k q e = rw (h, e, q)

module _ (header_len k : ℕ) (packet : List ℕ) (n : ℕ) (e : n ≡ length packet - header_len + k) where
  pub into_long : 2 ^ 14 ≤ n → length_into header_len k packet ≡ no 14
  unfolding length_into
  into_long h = rw (← e, le-ltb _ _ h)

  pub into_ok : n < 2 ^ 14 → length_into header_len k packet ≡ ok (splice packet (header_len - k - 2) (length_field n))
  unfolding length_into
  into_ok h = rw (← e, lt-ltb _ _ h)
