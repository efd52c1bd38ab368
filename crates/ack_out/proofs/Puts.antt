-- What the encoder's puts make, once the frame is known to be within its limits.
use Rattle.std.specs.Prelude.{if◌then◌else◌}
use mathlib.Core.Path.{◌≡◌, refl, sym, ap, ◌∙◌}
use mathlib.Core.List.{List, [], ◌++◌, append_assoc, append-nil}
use mathlib.Core.Bool.{Bool, true, false}
use mathlib.Core.Option.{Option}
use Prim.Native.Nat.{ℕ, ◌+◌, ◌≤◌}
use native.Mathlib.Omega.{arith}
use lib.Dec.{leb}
use lib.ListN.{length, length-append}
use borrow.Author.Tests.{leb-true}
use Rattle.coding.specs.Words.{no, ok}
use Rattle.coding.specs.Writing.{Put}
use Rattle.coding.proofs.Laws.{length_splice}
use Rattle.coding.proofs.Writes.{So, put_so, so_put}
use Rattle.row_out.specs.Limits.{below62, in_frame, limited, vars_bytes, vars_out, stored}
use Rattle.row_out.proofs.Laws.{out_ok}
use Rattle.ack_out.specs.Acks.{is_ranges, ack_out}
use Rattle.ack_out.proofs.Frames.{head, counts, blocks, whole, given, length_whole, not_ranges, is_limited, few, all_below}

-- what was not refused is within the limits
pub record Within (given whole bs : List ℕ) : Type 0 where
  pub small : below62 given ≡ true
  pub short : length whole ≤ 65527
  pub is : bs ≡ whole

within : (given whole bs : List ℕ) → limited given whole ≡ ok bs → Within given whole bs
unfolding limited in_frame
within given whole bs = go (below62 given) (leb (length whole) 65527) refl refl
  where
    go : (t u : Bool) → below62 given ≡ t → leb (length whole) 65527 ≡ u → (if t then (if u then ok whole else no 14) else no 14) ≡ ok bs → Within given whole bs
    go true true a b h = record { small = a; short = leb-true (length whole) 65527 b; is = cc }
    go true false a b h = let z : ◌≡◌ {A = ℕ} 0 1 = cc in absurd (omega arith)
    go false u a b h = let z : ◌≡◌ {A = ℕ} 0 1 = cc in absurd (omega arith)

-- what a put of integers within the limits stores
put_stored : (xs : List ℕ) → below62 xs ≡ true → length (vars_bytes xs) ≤ 65527 → stored (vars_out xs []) ≡ vars_bytes xs
unfolding stored
put_stored xs b h = rw (out_ok xs [] (length (vars_bytes xs)) (record { small = b; short = h; long = omega arith }), append-nil)

module _ (delay : ℕ) (l : List ℕ) (ecn : Option (ℕ × (ℕ × ℕ))) where
  pub record Ready (bs : List ℕ) : Type 0 where
    pub rule : is_ranges l ≡ true
    pub is : bs ≡ whole delay l ecn
    pub short : length (whole delay l ecn) ≤ 65527
    pub given_small : below62 (given delay l ecn) ≡ true
    pub first : stored (vars_out (head delay l ecn) []) ≡ vars_bytes (head delay l ecn)
    pub last : stored (vars_out (counts delay l ecn) []) ≡ vars_bytes (counts delay l ecn)

  pub ready : (bs : List ℕ) → ack_out delay l ecn ≡ ok bs → Ready bs
  ready bs e = go (is_ranges l) refl
    where
      go : (t : Bool) → is_ranges l ≡ t → Ready bs
      go true r =
          let w = within (given delay l ecn) (whole delay l ecn) bs (sym (is_limited delay l ecn r) ∙ e) in
          let b = all_below delay l ecn r (few delay l ecn r w.short) w.small in
          let n = length_whole delay l ecn in
          record {
            rule = r;
            is = w.is;
            short = w.short;
            given_small = w.small;
            first = put_stored (head delay l ecn) b.0 (omega (arith, w.short));
            last = put_stored (counts delay l ecn) b.1 (omega (arith, w.short));
          }
      go false r =
          let f = not_ranges delay l ecn r in
          let z : ◌≡◌ {A = ℕ} 0 1 = cc in
          absurd (omega arith)

  module _ (bs : List ℕ) (go : Ready bs) (old : List ℕ) (room : length bs ≤ length old) where
    abbrev a : List ℕ
    a = vars_bytes (head delay l ecn)

    abbrev b : List ℕ
    b = blocks delay l ecn

    abbrev c : List ℕ
    c = vars_bytes (counts delay l ecn)

    fits : length a + length b + length c ≤ length old
    fits = omega (arith, length_whole delay l ecn, ap length go.is)

    module _ (at : ℕ) (new : List ℕ) (p : Put (stored (vars_out (head delay l ecn) [])) old 0 at new) where
      first_so : So old 0 a at new
      first_so = put_so _ _ _ (omega (arith, fits)) (rw go.first at p)

      pub blocks_room : at + length b ≤ length new
      blocks_room =
          let s = first_so in
          let e : length new ≡ length old = rw s.bytes (length_splice old a 0 (omega (arith, fits))) in
          omega (arith, s.place, fits)

      pub all_put : (past : ℕ) (mid : List ℕ) → Put b new at past mid → (end : ℕ) (last : List ℕ)
          → Put (stored (vars_out (counts delay l ecn) [])) mid past end last → So old 0 bs end last
      all_put past mid q end last t =
          let n : length (a ++ b) ≡ length a + length b = length-append a b in
          let two = so_put first_so (omega (arith, fits)) q in
          let all = so_put two (omega (arith, fits)) (rw go.last at t) in
          rw go.is (rw append_assoc at all)
