-- The runs of puts: what each leaves room for, and that together they put the whole.
use Prim.Native.Nat.{ℕ, ◌+◌, ◌≤◌, ◌<◌}
use mathlib.Core.Path.{◌≡◌}
use mathlib.Core.List.{List, [], ◌∷◌, ◌++◌, append_assoc}
use mathlib.Core.Bool.{true}
use mathlib.Core.Option.{Option, some}
use native.Mathlib.Omega.{arith}
use lib.ListN.{length, length-append}
use Rattle.coding.specs.Bytes.{bytes_be}
use Rattle.coding.specs.Writing.{Put}
use Rattle.coding.proofs.Laws.{length_splice}
use Rattle.coding.proofs.Writes.{So, put_fits, put_so, so_put}
use Rattle.shared.specs.Cid.{cid_of, long_bytes}
use Rattle.shared.specs.declared.cid.ConnectionId.{ConnectionId}
use Rattle.shared.specs.declared.kinds.CutNumber.{CutNumber}
use Rattle.shared.proofs.Laws.{one_byte}
use Rattle.number.specs.Cutting.{is_cut, cut_put}
use Rattle.number.proofs.Cuts.{put_in}
use Rattle.packet_out.specs.Encoding.{Shape, names_bytes, token_bytes, length_bytes, number_field, shape_bytes}
use Rattle.packet_out.proofs.Laws.{length_shape, lent_long}

-- where a run of puts stands: its place, and a buffer as long as before
pub record Stands (old bs : List ℕ) (at r : ℕ) (new : List ℕ) : Type 0 where
  pub place : r ≡ at + length bs
  pub long : length new ≡ length old

pub stands : {old bs new : List ℕ} {at r : ℕ} → So old at bs r new → at + length bs ≤ length old → Stands old bs at r new
stands {old} {bs} {new} {at} s h = record { place = s.place; long = rw s.bytes (length_splice old bs at h) }

-- ---- a connection id behind its length

module _ (bs : List ℕ) {old m₁ : List ℕ} {at r₁ : ℕ} (few : length bs ≤ 20) (room : at + length (long_bytes (cid_of bs)) ≤ length old)
    (p : Put (bytes_be 1 (length bs)) old at r₁ m₁) where
  long_room : at + (1 + length bs) ≤ length old
  long_room = let r = rw (lent_long bs) at room in omega (arith, r)

  at_bytes : So old at (length bs ∷ []) r₁ m₁
  at_bytes = put_so _ _ _ (omega (arith, long_room)) (rw (one_byte (length bs) (omega (arith, few))) at p)

  pub long_run : {new : List ℕ} {next : ℕ} → Put bs m₁ r₁ next new → Put (long_bytes (cid_of bs)) old at next new
  long_run q = rw (lent_long bs) (put_fits _ _ _ (omega (arith, long_room)) (so_put at_bytes (omega (arith, long_room)) q))

-- ---- a number that keeps its rule

pub number_run : (c : CutNumber) {old new : List ℕ} {at next : ℕ} → is_cut c ≡ true → Put (cut_put c) old at next new → Put (number_field (some c)) old at next new
unfolding number_field
number_run c e p = rw (put_in c e) at p

-- ---- the version and both connection ids

module _ (version : ℕ) (dst src : ConnectionId) {old m₁ : List ℕ} {at r₁ : ℕ} (room : at + length (names_bytes (some version) dst src) ≤ length old)
    (p : Put (bytes_be 4 version) old at r₁ m₁) where
  names_long : length (names_bytes (some version) dst src) ≡ length (bytes_be 4 version) + (length (long_bytes dst) + length (long_bytes src))
  unfolding names_bytes
  names_long = simp length-append

  at_dst : So old at (bytes_be 4 version) r₁ m₁
  at_dst = put_so _ _ _ (omega (arith, room, names_long)) p

  module _ {m₂ : List ℕ} {r₂ : ℕ} (q : Put (long_bytes dst) m₁ r₁ r₂ m₂) where
    at_src : So old at (bytes_be 4 version ++ long_bytes dst) r₂ m₂
    at_src = so_put at_dst (omega (arith, room, names_long)) q

    both : length (bytes_be 4 version ++ long_bytes dst) ≡ length (bytes_be 4 version) + length (long_bytes dst)
    both = length-append (bytes_be 4 version) (long_bytes dst)

    pub names_run : {new : List ℕ} {next : ℕ} → Put (long_bytes src) m₂ r₂ next new → Put (names_bytes (some version) dst src) old at next new
    unfolding names_bytes
    names_run r = put_fits _ _ _ room (rw append_assoc at (so_put at_src (omega (arith, room, names_long, both)) r))

-- ---- five puts, one after the other

module _ (a b d e f : List ℕ) {old m₁ : List ℕ} {r₁ : ℕ}
    (fits : length a + (length b + (length d + (length e + length f))) ≤ length old) (p : Put a old 0 r₁ m₁) where
  one : So old 0 a r₁ m₁
  one = put_so a old 0 (omega (arith, fits)) p

  pub after_one : r₁ + length b ≤ length m₁
  after_one = let s = stands one (omega (arith, fits)) in omega (arith, s, fits)

  module _ {m₂ : List ℕ} {r₂ : ℕ} (q : Put b m₁ r₁ r₂ m₂) where
    two : So old 0 (a ++ b) r₂ m₂
    two = so_put one (omega (arith, fits)) q

    two_long : length (a ++ b) ≡ length a + length b
    two_long = length-append a b

    pub after_two : r₂ + length d ≤ length m₂
    after_two = let s = stands two (omega (arith, fits, two_long)) in omega (arith, s, fits, two_long)

    module _ {m₃ m₄ : List ℕ} {r₃ r₄ : ℕ} (t : Put d m₂ r₂ r₃ m₃) (l : Put e m₃ r₃ r₄ m₄) where
      three_long : length ((a ++ b) ++ d) ≡ length a + length b + length d
      three_long = simp length-append (omega arith)

      four_long : length (((a ++ b) ++ d) ++ e) ≡ length a + length b + length d + length e
      four_long = simp length-append (omega arith)

      all_long : length (a ++ (b ++ (d ++ (e ++ f)))) ≡ length a + (length b + (length d + (length e + length f)))
      all_long = simp length-append

      four : So old 0 (((a ++ b) ++ d) ++ e) r₄ m₄
      four = so_put (so_put two (omega (arith, fits, two_long)) t) (omega (arith, fits, three_long)) l

      pub after_five : {new : List ℕ} {next : ℕ} → Put f m₄ r₄ next new → Put (a ++ (b ++ (d ++ (e ++ f)))) old 0 next new
      after_five n = put_fits _ _ _ (omega (arith, fits, all_long)) (simp append_assoc at (so_put four (omega (arith, fits, four_long)) n))

-- ---- the whole header

module _ (field : List ℕ) (shape : Shape) (number : Option CutNumber) (dst src : ConnectionId) (token : List ℕ) {old m₁ : List ℕ} {r₁ : ℕ}
    (small : shape.first < 256) (room : length (shape_bytes field shape number dst src token) ≤ length old)
    (p : Put (bytes_be 1 shape.first) old 0 r₁ m₁) where
  first : Put (shape.first ∷ []) old 0 r₁ m₁
  first = rw (one_byte shape.first small) at p

  fits : 1 + (length (names_bytes shape.version dst src) + (length (token_bytes shape.has_token token) + (length (length_bytes shape.has_length field) + length (number_field number)))) ≤ length old
  fits = rw (length_shape field shape number dst src token) at room

  pub names_room : r₁ + length (names_bytes shape.version dst src) ≤ length m₁
  names_room = after_one (shape.first ∷ []) (names_bytes shape.version dst src) (token_bytes shape.has_token token) (length_bytes shape.has_length field) (number_field number) fits first

  module _ {m₂ : List ℕ} {r₂ : ℕ} (q : Put (names_bytes shape.version dst src) m₁ r₁ r₂ m₂) where
    pub token_room : r₂ + length (token_bytes shape.has_token token) ≤ length m₂
    token_room = after_two (shape.first ∷ []) (names_bytes shape.version dst src) (token_bytes shape.has_token token) (length_bytes shape.has_length field) (number_field number) fits first q

    module _ {m₃ m₄ : List ℕ} {r₃ r₄ : ℕ} (t : Put (token_bytes shape.has_token token) m₂ r₂ r₃ m₃) (l : Put (length_bytes shape.has_length field) m₃ r₃ r₄ m₄) where
      pub header_put : {new : List ℕ} {next : ℕ} → Put (number_field number) m₄ r₄ next new → Put (shape_bytes field shape number dst src token) old 0 next new
      unfolding shape_bytes
      header_put n = after_five (shape.first ∷ []) (names_bytes shape.version dst src) (token_bytes shape.has_token token) (length_bytes shape.has_length field) (number_field number) fits first q t l n
