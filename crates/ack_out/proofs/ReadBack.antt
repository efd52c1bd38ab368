-- What the encoder wrote is read back: the frame, and of its blocks exactly the ranges, largest first.
use mathlib.Core.Path.{◌≡◌, refl, sym, ap, ◌∙◌}
use mathlib.Core.List.{List, [], ◌∷◌, ◌++◌, map, append-nil, append_assoc}
use mathlib.Core.Bool.{true}
use mathlib.Core.Option.{Option, none, some}
use Prim.Native.Nat.{ℕ, suc, ◌+◌, ◌-◌, ◌*◌, ◌/◌, ◌≤◌, ◌<◌, ◌^◌}
use native.Mathlib.Omega.{arith}
use lib.ListN.{length, length-append}
use Rattle.coding.specs.Words.{ok}
use Rattle.coding.specs.Places.{part_of}
use Rattle.coding.specs.Varint.{var_tag, var_size, var_bytes}
use Rattle.coding.proofs.Laws.{length_var}
use Rattle.coding.specs.declared.Place.{Place}
use Rattle.coding.proofs.Back.{part_back}
use Rattle.ack.specs.Scan.{Range, scan_at, ranges_at}
use Rattle.ack.specs.Step.{range, end, stepping}
use Rattle.ack.proofs.Ranges as stepped
use Rattle.ack_iter.specs.Iter.{reading}
use Rattle.ack_iter.proofs.Ranges as iterated
use Rattle.frame.specs.Format as format
use Rattle.frame.specs.Format.{Value, num, place, said, Field, var, ack_blocks, absent}
use Rattle.frame.specs.Table.{table, taken}
use Rattle.frame.specs.Walk.{frame, step_at}
use Rattle.frame.proofs.Walks.{step_taken}
use Rattle.row_out.specs.Writing.{Word, number, raw, nothing, rounds_in, field_bytes, row_bytes, frame_bytes}
use Rattle.row_out.specs.Limits.{below62, vars_bytes}
use Rattle.row_out.specs.Back.{WordsFit}
use Rattle.row_out.proofs.Laws.{below_cons, vars_bound}
use Rattle.row_out.proofs.ReadBack.{frame_back, words_back}
use Rattle.ack_out.specs.Acks.{is_ranges, range_at, ranges_of, all_ranges, largest_of, block_numbers, block_bytes, counts_of, ack_type_of, ecn_words, ack_words, ack_out}
use Rattle.ack_out.proofs.Frames.{ranges_length, ranged, length_whole, rounds, whole_is, few, all_below}
use Rattle.ack_out.proofs.Puts.{Ready, ready}
use Rattle.ack_out.proofs.Blocks.{Below, scan_back}
use Rattle.ack_out.proofs.Lists.{at, kept, rises, blocks_of, pairs_below}

-- ---- the blocks by themselves

-- the scan takes the blocks of ranges whole and passes those ranges; a reader steps through them, and ends
pub record Told (rs : List Range) : Type 0 where
  pub scanned : scan_at (block_bytes rs) 0 (largest_of rs) (length rs - 1) ≡ ok (length (block_bytes rs))
  pub passed : ranges_at (block_bytes rs) 0 (largest_of rs) (length rs - 1) ≡ rs
  pub largest : largest_of rs < 2 ^ 62

told_first : (r : Range) (rs : List Range) → r.largest < 2 ^ 62 → r.smallest ≤ r.largest → Below r.smallest rs → Told (r ∷ rs)
unfolding largest_of
told_first r rs h k b =
    let s : List ℕ = block_bytes (r ∷ rs) in
    let e : suc (length rs) - 1 ≡ length rs = omega arith in
    let t = scan_back s r rs [] [] 0 h k b refl (sym (append-nil s)) in
    record { scanned = rw e (t.whole ∙ ap ok (omega arith)); passed = rw e t.passed; largest = h }

pub told : (l : List ℕ) → is_ranges l ≡ true → Told (all_ranges l)
unfolding range_at
told l r =
    let k = kept l r in
    let n : ℕ = length l / 2 - 1 in
    let b = blocks_of l n k (omega (arith, k.even, k.some)) in
    let i : length l - 1 ≡ 2 * n + 1 = omega (arith, b.pair) in
    let top : at l (2 * n + 1) ≤ 2 ^ 62 = rw i at k.top in
    let f : suc (2 * n) ≡ 2 * n + 1 = omega arith in
    let up : at l (2 * n) < at l (2 * n + 1) = rw f at (rises l (2 * n) k.up (omega (arith, b.pair))) in
    rw b.ranged (told_first (range_at l n) (ranges_of l n) (omega arith) (omega arith) (pairs_below l n k.up (omega (arith, b.pair))))

-- any number of steps past the count says the ranges, largest first, and then the end
module _ (rs : List Range) (t : Told rs) (short : length (block_bytes rs) ≤ 65527) (k : ℕ) (enough : length rs - 1 ≤ k) where
  all : part_of (block_bytes rs) (record { start = 0; len = length (block_bytes rs) - 0 }) ≡ block_bytes rs
  all = let z : length (block_bytes rs) - 0 ≡ length (block_bytes rs) = omega arith in rw z (rw append-nil at (part_back [] (block_bytes rs) []))

  pub steps_told : stepping (suc (suc k)) (block_bytes rs) 0 (largest_of rs) ≡ map range rs ++ (end ∷ [])
  steps_told =
      rw (t.passed, all) at (stepped.scan_ranges (block_bytes rs) 0 (largest_of rs) (length rs - 1) (length (block_bytes rs)) k t.largest t.scanned (omega arith) enough)

  pub iter_told : reading (suc (suc k)) (block_bytes rs) (largest_of rs) ≡ map range rs ++ (end ∷ [])
  iter_told =
      rw (t.passed, all) at (iterated.scan_ranges (block_bytes rs) 0 (largest_of rs) (length rs - 1) (length (block_bytes rs)) k t.largest t.scanned (omega arith) enough)

-- ---- the frame

-- the counts as they are read
abbrev pub ecn_values : Option (ℕ × (ℕ × ℕ)) → List Value
ecn_values none = format.none ∷ []
ecn_values (some (ect0, (ect1, ce))) = num ect0 ∷ num ect1 ∷ num ce ∷ []

-- in a payload within its rule, the step at a place hands out the ACK of ranges, which ends at n
pub record Back (s : List ℕ) (start delay : ℕ) (rs : List Range) (ecn : Option (ℕ × (ℕ × ℕ))) (n : ℕ) : Type 0 where
  pub blocks : Place
  pub read : length s ≤ 65527
      → step_at table s start ≡ frame (taken (ack_type_of ecn) (said 0x02 (num (largest_of rs) ∷ num delay ∷ place blocks ∷ ecn_values ecn)) n)
  pub bytes : part_of s blocks ≡ block_bytes rs

-- the words fit the row, whatever counts follow
front : (delay : ℕ) (rs : List Range) (more : List Field) (ws : List Word) (start : ℕ) (q : List ℕ) → Told rs → delay < 2 ^ 62
    → rounds_in (block_bytes rs) ≡ length rs - 1 → length rs - 1 < 2 ^ 62
    → ((seen : List Value) (at : ℕ) → WordsFit more ws seen at q)
    → WordsFit (var ∷ var ∷ ack_blocks ∷ more) (number (largest_of rs) ∷ number delay ∷ raw (block_bytes rs) ∷ ws) [] start q
front delay rs more ws start q t d r n w = (t.largest, (d, ((rw r n, rw r t.scanned), w _ _)))

-- the third word of two equal lists
third : (a b : ℕ) (x y : List ℕ) (l m : List Word) → number a ∷ number b ∷ raw x ∷ l ≡ number a ∷ number b ∷ raw y ∷ m → x ≡ y
third a b x y l m e = cc

-- and so they are read back
module _ (p q : List ℕ) (delay : ℕ) (rs : List Range) (t : ℕ) (small : t < 2 ^ 62) (more : List Field) (ws : List Word) where
  abbrev fields : List Field
  fields = var ∷ var ∷ ack_blocks ∷ more

  abbrev words : List Word
  words = number (largest_of rs) ∷ number delay ∷ raw (block_bytes rs) ∷ ws

  abbrev blocks_at : Place
  blocks_at = record { start = length p + var_size t + length (var_bytes (largest_of rs)) + length (var_bytes delay) + var_size (rounds_in (block_bytes rs)); len = length (block_bytes rs) }

  part_told : WordsFit fields words [] (length p + var_size t) q → part_of (p ++ ((var_bytes t ++ row_bytes fields words) ++ q)) blocks_at ≡ block_bytes rs
  unfolding field_bytes
  part_told w =
      let l : length (p ++ var_bytes t) ≡ length p + var_size t = simp (length-append, length_var) in
      let e : p ++ ((var_bytes t ++ row_bytes fields words) ++ q) ≡ (p ++ var_bytes t) ++ (row_bytes fields words ++ q) = simp append_assoc in
      let b = rw l at (words_back fields words (p ++ var_bytes t) q [] (rw l w)) in
      rw e (third _ _ _ _ _ _ b)

back_with : (p q : List ℕ) (delay : ℕ) (rs : List Range) (ecn : Option (ℕ × (ℕ × ℕ))) → Told rs → delay < 2 ^ 62 → below62 (counts_of ecn) ≡ true
    → rounds_in (block_bytes rs) ≡ length rs - 1 → length rs - 1 < 2 ^ 62
    → Back (p ++ (frame_bytes table (ack_type_of ecn) (ack_words delay rs ecn) ++ q)) (length p) delay rs ecn
    (length p + length (frame_bytes table (ack_type_of ecn) (ack_words delay rs ecn)))
unfolding ack_type_of ack_words ecn_words counts_of frame_bytes field_bytes table
back_with p q delay rs none t d b r n =
    let more : List Field = absent ∷ [] in
    let ws : List Word = nothing ∷ [] in
    let w = front delay rs more ws (length p + var_size 0x02) q t d r n (λ seen at. (refl, tt)) in
    record {
      blocks = blocks_at p q delay rs 0x02 (omega arith) more ws;
      read = λ fits. step_taken table _ _ _ _ _ fits (frame_back table 0x02 _ _ p q refl (omega arith) w);
      bytes = part_told p q delay rs 0x02 (omega arith) more ws w;
    }
back_with p q delay rs (some (x, (y, z))) t d b r n =
    let more : List Field = var ∷ var ∷ var ∷ [] in
    let ws : List Word = number x ∷ number y ∷ number z ∷ [] in
    let i = below_cons x (y ∷ z ∷ []) b in
    let j = below_cons y (z ∷ []) i.1 in
    let k = below_cons z [] j.1 in
    let w = front delay rs more ws (length p + var_size 0x03) q t d r n (λ seen at. (i.0, (j.0, (k.0, tt)))) in
    record {
      blocks = blocks_at p q delay rs 0x03 (omega arith) more ws;
      read = λ fits. step_taken table _ _ _ _ _ fits (frame_back table 0x03 _ _ p q refl (omega arith) w);
      bytes = part_told p q delay rs 0x03 (omega arith) more ws w;
    }

-- ---- sizes

type_size : (ecn : Option (ℕ × (ℕ × ℕ))) → var_size (ack_type_of ecn) ≡ 1
unfolding ack_type_of var_size var_tag
type_size none = refl
type_size (some c) = refl

counts_few : (ecn : Option (ℕ × (ℕ × ℕ))) → length (counts_of ecn) ≤ 3
unfolding counts_of
counts_few none = omega arith
counts_few (some c) = omega arith

head_length : (x : ℕ) (xs : List ℕ) → length (vars_bytes (x ∷ xs)) ≡ var_size x + length (vars_bytes xs)
unfolding vars_bytes
head_length x xs = simp (length-append, length_var)

-- ---- what the encoder wrote, before and after any other bytes

module _ (delay : ℕ) (l : List ℕ) (ecn : Option (ℕ × (ℕ × ℕ))) (bs : List ℕ) (e : ack_out delay l ecn ≡ ok bs) where
  abbrev sent : Ready delay l ecn bs
  sent = ready delay l ecn bs e

  -- is read as the frame of its type, with its numbers and its blocks
  pub ack_back : (p q : List ℕ) → Back (p ++ (bs ++ q)) (length p) delay (all_ranges l) ecn (length p + length bs)
  ack_back p q =
      let r = sent.rule in
      let x = below_cons _ _ sent.given_small in
      let y = below_cons _ _ x.1 in
      let f : bs ≡ frame_bytes table (ack_type_of ecn) (ack_words delay (all_ranges l) ecn) = sent.is ∙ sym (whole_is delay l ecn r) in
      let n : length (all_ranges l) - 1 < 2 ^ 62 = omega (arith, ranges_length l (length l / 2), few delay l ecn r sent.short) in
      rw f (back_with p q delay (all_ranges l) ecn (told l r) y.0 y.1 (rounds delay l ecn r) n)

  -- a reader of its blocks, with or without a slice of its own, is handed exactly the ranges, largest first, and then the end
  pub ack_ranges : (p q : List ℕ) (k : ℕ) → length l / 2 ≤ suc k
      → let b = ack_back p q in
      let s : List ℕ = part_of (p ++ (bs ++ q)) b.blocks in
      (stepping (suc (suc k)) s 0 (largest_of (all_ranges l)) ≡ map range (all_ranges l) ++ (end ∷ []))
      × (reading (suc (suc k)) s (largest_of (all_ranges l)) ≡ map range (all_ranges l) ++ (end ∷ []))
  ack_ranges p q k h =
      let r = sent.rule in
      let n : length (all_ranges l) - 1 ≤ k = omega (arith, ranges_length l (length l / 2)) in
      let short : length (block_bytes (all_ranges l)) ≤ 65527 = omega (arith, length_whole delay l ecn, sent.short) in
      rw (ack_back p q).bytes (steps_told (all_ranges l) (told l r) short k n, iter_told (all_ranges l) (told l r) short k n)

  -- no longer than 41 bytes and 16 for each range: the type has one byte, and each of the other integers at most eight
  pub ack_bound : length bs ≤ 41 + 16 * (length l / 2)
  ack_bound =
      let r = sent.rule in
      let t = ranged l (kept l r) in
      let b = all_below delay l ecn r (few delay l ecn r sent.short) sent.given_small in
      let rest : List ℕ = largest_of (all_ranges l) ∷ delay ∷ (length (all_ranges l) - 1) ∷ [] in
      let h = vars_bound rest (below_cons (ack_type_of ecn) rest b.0).1 in
      omega (
        arith,
        ap length sent.is,
        length_whole delay l ecn,
        head_length (ack_type_of ecn) rest,
        type_size ecn,
        vars_bound (block_numbers (all_ranges l)) t.below,
        t.numbers,
        vars_bound (counts_of ecn) b.1,
        counts_few ecn,
        (kept l r).even,
        (kept l r).some,
      )
