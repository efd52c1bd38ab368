-- What header_write stores is what encode writes and the Length step then sets, for any payload of the given length.
use Prim.Native.Nat.{ℕ, ◌+◌, ◌^◌, ◌≤◌, ◌<◌}
use mathlib.Core.Path.{◌≡◌, refl, sym, ap, ◌∙◌}
use mathlib.Core.List.{List, ◌++◌}
use mathlib.Core.Bool.{Bool, true, false, ◌&&◌}
use mathlib.Core.Option.{some}
use native.Mathlib.Omega.{arith}
use lib.ListN.{length}
use lib.Dec.{leb}
use borrow.Author.Tests.{leb-true}
use Rattle.coding.specs.Words.{ok}
use Rattle.shared.specs.declared.cid.ConnectionId.{ConnectionId}
use Rattle.shared.specs.declared.kinds.CutNumber.{CutNumber}
use Rattle.number.specs.Cutting.{is_cut}
use Rattle.packet.specs.TypeBits.{bits_of}
use Rattle.packet_out.specs.Encoding.{Plain, plain_number, keep_rules, shape_by, written_header, header_bytes}
use Rattle.packet_out.specs.Length.{length_field, length_set}
use Rattle.packet_out.proofs.Laws.{kept, length_small}
use Rattle.packet_out.proofs.LengthAndMask.{sets}
use Rattle.packet_out.specs.Before.{roomy, number_size, length_fits, fits, header_with}

-- what fits
pub record Fit (p : Plain) (dst src : ConnectionId) (token : List ℕ) (n : ℕ) : Type 0 where
  pub rules : keep_rules (plain_number p) dst src ≡ true
  pub all : length (header_bytes bits_of p dst src token) + n ≤ 65527
  pub len : length_fits (shape_by bits_of p).has_length (number_size p + n) ≡ true

module _ (p : Plain) (dst src : ConnectionId) (token : List ℕ) (n : ℕ) where
  pub fit : fits p dst src token n ≡ true → Fit p dst src token n
  unfolding fits roomy
  fit = go (keep_rules (plain_number p) dst src) (leb (length (header_bytes bits_of p dst src token) + n) 65527) (length_fits (shape_by bits_of p).has_length (number_size p + n)) refl refl refl
    where
      go : (a b d : Bool) → keep_rules (plain_number p) dst src ≡ a → leb (length (header_bytes bits_of p dst src token) + n) 65527 ≡ b
          → length_fits (shape_by bits_of p).has_length (number_size p + n) ≡ d → ((a && b) && d) ≡ true → Fit p dst src token n
      go true true true x y z h = record { rules = x; all = leb-true _ _ y; len = z }
      go true true false x y z h = let q : ◌≡◌ {A = ℕ} 0 1 = cc in absurd (omega arith)
      go true false d x y z h = let q : ◌≡◌ {A = ℕ} 0 1 = cc in absurd (omega arith)
      go false b d x y z h = let q : ◌≡◌ {A = ℕ} 0 1 = cc in absurd (omega arith)

module _ (p : Plain) (dst src : ConnectionId) (token payload : List ℕ) (c : CutNumber) (is : plain_number p ≡ some c)
    (t : fits p dst src token (length payload) ≡ true) where
  size : number_size p ≡ c.0
  size = rw is

  cuts : is_cut c ≡ true
  cuts = rw is at (kept _ _ _ (fit p dst src token (length payload) t).rules).cut

  few : (shape_by bits_of p).has_length ≡ true → c.0 + length payload < 2 ^ 14
  few h = omega (arith, size, length_small (shape_by bits_of p).has_length (number_size p + length payload) h (fit p dst src token (length payload) t).len)

  -- what header_write stores
  unfoldable pub whole : List ℕ
  whole = written_header bits_of (length_field (number_size p + length payload)) p dst src token

  pub written : header_with p dst src token (length payload) ≡ ok whole
  unfolding header_with whole
  written = rw t

  pub encoded_then_set : length_set (length (header_bytes bits_of p dst src token)) (some c.0) (shape_by bits_of p).has_length (header_bytes bits_of p dst src token ++ payload)
      ≡ ok (whole ++ payload)
  unfolding whole
  encoded_then_set =
      sets bits_of p dst src token c is (shape_by bits_of p).has_length payload refl cuts (fit p dst src token (length payload) t).all few
      ∙ ap (λ (k : ℕ). ok (written_header bits_of (length_field (k + length payload)) p dst src token ++ payload)) (sym size)
