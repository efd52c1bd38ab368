-- The header before a payload, over lent connection ids: with encode's placeholder, and with its Length.
use Rattle.std.specs.Prelude.{if◌then◌else◌}
use Rattle.std.proofs.Math.Bool.{and-true, and-false}
use Prim.Native.Nat.{ℕ, ◌+◌, ◌^◌, ◌≤◌, ◌<◌}
use mathlib.Core.Path.{◌≡◌, refl, ap, ◌∙◌}
use mathlib.Core.List.{List, ◌∷◌}
use mathlib.Core.Bool.{Bool, true, false, ◌&&◌}
use mathlib.Core.Option.{Option, none, some}
use native.Mathlib.Nat.{add-zero}
use lib.ListN.{length}
use lib.Dec.{leb}
use borrow.Author.Tests.{le-leb, lt-leb}
use Rattle.coding.specs.Words.{no}
use Rattle.coding.specs.Bytes.{bytes_be}
use Rattle.shared.specs.Cid.{max_cid, cid_of, cid_bytes, long_bytes}
use Rattle.shared.specs.declared.cid.ConnectionId.{ConnectionId}
use Rattle.shared.specs.declared.kinds.CutNumber.{CutNumber}
use Rattle.shared.proofs.Laws.{length_cid}
use Rattle.shared.proofs.Back.{cid_same}
use Rattle.packet.specs.TypeBits.{bits_of}
use Rattle.packet_out.specs.Encoding.{Plain, plain_number, shape_by, shape_bytes, names_bytes, written_header, header_bytes, placeholder, keep_rules, in_header, header_out}
use Rattle.packet_out.specs.Length.{length_field}
use Rattle.packet_out.specs.Before.{roomy, header_before, number_size, length_fits, field_for, fits, header_with}
use Rattle.packet_out.proofs.Laws.{lent_long}
use Rattle.packet_out.proofs.LengthAndMask.{without}

-- ---- with its Length

module _ (p : Plain) (dst src : ConnectionId) (token : List ℕ) (n : ℕ) where
  pub with_wide : (leb dst.len max_cid && leb src.len max_cid) ≡ false → header_with p dst src token n ≡ no 14
  unfolding header_with fits roomy keep_rules
  with_wide h = rw h

  pub with_not : length_fits (shape_by bits_of p).has_length (number_size p + n) ≡ false → header_with p dst src token n ≡ no 14
  unfolding header_with fits
  with_not h = rw (h, and-false (roomy p dst src token n))

  same_header : (b : Bool) (m : ℕ) → (shape_by bits_of p).has_length ≡ b
      → written_header bits_of (bytes_be 2 (field_for b m)) p dst src token ≡ written_header bits_of (length_field m) p dst src token
  unfolding field_for length_field
  same_header true m e = refl
  same_header false m e = without bits_of p dst src token (bytes_be 2 0) (bytes_be 2 (2 ^ 14 + m)) e

  pub with_field : length_fits (shape_by bits_of p).has_length (number_size p + n) ≡ true
      → header_before (bytes_be 2 (field_for (shape_by bits_of p).has_length (number_size p + n))) p dst src token n ≡ header_with p dst src token n
  unfolding header_before header_with fits
  with_field h = rw (h, same_header (shape_by bits_of p).has_length (number_size p + n) refl, and-true (roomy p dst src token n))

-- ---- encode's, of a connection id by value

both : {A : Type 0} (a b : Bool) (x y : A) → (if a && b then x else y) ≡ (if a then (if b then x else y) else y)
both true b x y = refl
both false b x y = refl

module _ (c : ConnectionId) (h : c.len ≤ length c.bytes) where
  long_same : long_bytes (cid_of (cid_bytes c)) ≡ long_bytes c
  unfolding long_bytes
  long_same = lent_long (cid_bytes c) ∙ ap (λ (l : ℕ). l ∷ cid_bytes c) (length_cid c h)

module _ (p : Plain) (dst src : ConnectionId) (token : List ℕ) where
  pub out_wide : 20 < dst.len → header_out bits_of p dst src token ≡ no 14
  unfolding header_out keep_rules
  out_wide h = rw (lt-leb _ _ h)

  pub out_wide_src : dst.len ≤ 20 → 20 < src.len → header_out bits_of p dst src token ≡ no 14
  unfolding header_out keep_rules
  out_wide_src h k = rw (le-leb _ _ h, lt-leb _ _ k)

  module _ (to : dst.len ≤ length dst.bytes) (from : src.len ≤ length src.bytes) where
    names_same : (v : Option ℕ) → names_bytes v (cid_of (cid_bytes dst)) (cid_of (cid_bytes src)) ≡ names_bytes v dst src
    unfolding names_bytes
    names_same none = cid_same (cid_bytes dst)
    names_same (some v) = rw (long_same dst to, long_same src from)

    header_same : header_bytes bits_of p (cid_of (cid_bytes dst)) (cid_of (cid_bytes src)) token ≡ header_bytes bits_of p dst src token
    unfolding written_header shape_bytes
    header_same = rw (names_same (shape_by bits_of p).version)

    rules_same : (number : Option CutNumber) → keep_rules number (cid_of (cid_bytes dst)) (cid_of (cid_bytes src)) ≡ keep_rules number dst src
    unfolding keep_rules cid_of
    rules_same number = rw (length_cid dst to, length_cid src from)

    pub out_lent : header_before placeholder p (cid_of (cid_bytes dst)) (cid_of (cid_bytes src)) token 0 ≡ header_out bits_of p dst src token
    unfolding header_before roomy header_out in_header
    out_lent = rw (header_same, rules_same (plain_number p), add-zero) (both (keep_rules (plain_number p) dst src) (leb (length (header_bytes bits_of p dst src token)) 65527) _ _)
