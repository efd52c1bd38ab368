-- Each map from the code's values to the documents' numbers has an inverse: what is said settles the value.
use mathlib.Core.Path.{◌≡◌, refl, sym, ap, ◌∙◌}
use native.Mathlib.Omega.{arith}
use mathlib.Core.Bool.{cond}
use Prim.Native.Nat.{ℕ}
use lib.Dec.{eqb}
use Rattle.std.proofs.Common.{Option, Some, None, Result, Ok, Err}
use Rattle.coding.specs.Words.{Answer}
use Rattle.coding.specs.declared.reader.Reader.{Reader}
use Rattle.coding.specs.declared.refusal.Refusal.{Refusal}
use Rattle.coding.proofs.Numbers.{refusal_of, refusal_back}
use Rattle.coding.proofs.Inverse.{one_by, answered}
use Rattle.shared.specs.Cid.{no_cid}
use Rattle.shared.specs.Said.{cid_made_of, cid_read_of, ReadsCid, ecn_read_of, side_bit, dir_bit, stream_of}
use Rattle.shared.specs.declared.cid.ConnectionId.{ConnectionId}
use Rattle.shared.specs.declared.codepoint.EcnCodepoint.{EcnCodepoint}
use Rattle.shared.specs.declared.codepoint.EcnCodepoint.TheVariants as ecn
use Rattle.shared.specs.declared.kinds.Side.{Side}
use Rattle.shared.specs.declared.kinds.Side.TheVariants as side
use Rattle.shared.specs.declared.kinds.Dir.{Dir}
use Rattle.shared.specs.declared.kinds.Dir.TheVariants as dir
use Rattle.shared.specs.declared.kinds.StreamId.{StreamId}

-- a CID beside a number or a place: the refusal leaves the empty one out
abbrev made_by : Answer ℕ × ConnectionId → Result ConnectionId Refusal
made_by g = answered (λ k. Err (refusal_of k)) (λ n. Ok g.1) g.0

pub cid_made_one : (x y : Result ConnectionId Refusal) (g : Answer ℕ × ConnectionId) → cid_made_of x ≡ g → cid_made_of y ≡ g → x ≡ y
unfolding cid_made_of no_cid
cid_made_one = one_by cid_made_of made_by back
  where
    back : (r : Result ConnectionId Refusal) → made_by (cid_made_of r) ≡ r
    back (Ok c) = refl
    back (Err why) = ap Err (refusal_back why)

-- two reads of one reader that say the same answer the same, and stand at one place
pub reads_cid_one : (g : Answer ℕ × ConnectionId) (old x' y' : Reader) (x y : Result ConnectionId Refusal)
    → ReadsCid g old x x' → ReadsCid g old y y' → ◌≡◌ {A = Result ConnectionId Refusal × Reader} (x, x') (y, y')
unfolding cid_read_of no_cid
reads_cid_one g old x' y' x y p q = same x y p q
  where
    is_ok : Answer ℕ × ConnectionId → ℕ
    is_ok h = answered (λ k. 0) (λ n. 1) h.0

    place : Answer ℕ × ConnectionId → ℕ
    place h = answered (λ k. 0) (λ n. n) h.0

    why_of : Answer ℕ × ConnectionId → Refusal
    why_of h = answered refusal_of refusal_of h.0

    same : (x y : Result ConnectionId Refusal) → ReadsCid g old x x' → ReadsCid g old y y' → ◌≡◌ {A = Result ConnectionId Refusal × Reader} (x, x') (y, y')
    same (Ok c) (Ok d) p q =
        let e = p.says ∙ sym q.says in
        let b = p.bytes ∙ sym q.bytes in
        λ i. (Ok (ap (λ h. h.1) e i), record { bytes = b i; at = ap place e i })
    same (Ok c) (Err k) p q = let z : ◌≡◌ {A = ℕ} 1 0 = ap is_ok (p.says ∙ sym q.says) in absurd (omega arith)
    same (Err k) (Ok d) p q = let z : ◌≡◌ {A = ℕ} 0 1 = ap is_ok (p.says ∙ sym q.says) in absurd (omega arith)
    same (Err k) (Err j) p q =
        let e = sym (refusal_back k) ∙ ap why_of (p.says ∙ sym q.says) ∙ refusal_back j in
        let n = p.stays ∙ sym q.stays in
        let b = p.bytes ∙ sym q.bytes in
        λ i. (Err (e i), record { bytes = b i; at = n i })

pub ecn_one : (x y : Option EcnCodepoint) (n : ℕ) → ecn_read_of x ≡ n → ecn_read_of y ≡ n → x ≡ y
ecn_one = one_by ecn_read_of read_by back
  where
    read_by : ℕ → Option EcnCodepoint
    read_by n =
        cond (eqb n 0b00) None
        (Some (cond (eqb n 0b10) ecn.Ect0 (cond (eqb n 0b01) ecn.Ect1 ecn.Ce)))

    back : (r : Option EcnCodepoint) → read_by (ecn_read_of r) ≡ r
    back (Some ecn.Ect0) = refl
    back (Some ecn.Ect1) = refl
    back (Some ecn.Ce) = refl
    back None = refl

pub side_one : (x y : Side) (n : ℕ) → side_bit x ≡ n → side_bit y ≡ n → x ≡ y
side_one = one_by side_bit (λ n. cond (eqb n 0) side.Client side.Server) back
  where
    back : (r : Side) → cond (eqb (side_bit r) 0) side.Client side.Server ≡ r
    back side.Client = refl
    back side.Server = refl

pub dir_one : (x y : Dir) (n : ℕ) → dir_bit x ≡ n → dir_bit y ≡ n → x ≡ y
dir_one = one_by dir_bit (λ n. cond (eqb n 0) dir.Bi dir.Uni) back
  where
    back : (r : Dir) → cond (eqb (dir_bit r) 0) dir.Bi dir.Uni ≡ r
    back dir.Bi = refl
    back dir.Uni = refl

pub stream_one : (x y : Result StreamId Refusal) (g : Answer ℕ) → stream_of x ≡ g → stream_of y ≡ g → x ≡ y
unfolding stream_of
stream_one = one_by stream_of (answered (λ k. Err (refusal_of k)) (λ v. Ok (record { 0 = v }))) back
  where
    back : (r : Result StreamId Refusal) → answered (λ k. Err (refusal_of k)) (λ v. Ok (record { 0 = v })) (stream_of r) ≡ r
    back (Ok id) = refl
    back (Err why) = ap Err (refusal_back why)
