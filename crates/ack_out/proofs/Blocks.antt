-- The blocks that are written are scanned whole, and the ranges that the scan passes are those that were written.
use mathlib.Core.Path.{◌≡◌, refl, ap, ◌∙◌}
use mathlib.Core.List.{List, [], ◌∷◌, ◌++◌, append_assoc}
use Prim.Native.Nat.{ℕ, suc, ◌+◌, ◌-◌, ◌≤◌, ◌<◌, ◌^◌}
use native.Mathlib.Omega.{arith}
use lib.ListN.{length, length-append}
use borrow.Author.Tests.{le-ltb}
use Rattle.coding.specs.Words.{got, and_then, ok}
use Rattle.coding.specs.Varint.{var_at, var_bytes, var_size}
use Rattle.coding.proofs.Laws.{length_var}
use Rattle.coding.proofs.Back.{var_back}
use Rattle.ack.specs.Scan.{Range, rounds, scan_at, round_ranges, ranges_at}
use Rattle.ack.proofs.Ranges.{round_range, first_range}
use Rattle.row_out.specs.Limits.{vars_bytes}
use Rattle.ack_out.specs.Acks.{round_numbers, block_numbers, block_bytes}

-- gaps and blocks as they are written
abbrev pub round_bytes : ℕ → List Range → List ℕ
round_bytes low rs = vars_bytes (round_numbers low rs)

-- ranges, largest first, that can stand below the smallest number so far
abbrev pub Below : ℕ → List Range → Type 0
Below low [] = Unit
Below low (r ∷ rs) = (r.largest + 2 ≤ low) × ((r.smallest ≤ r.largest) × Below r.smallest rs)

-- an integer that was written, anywhere in a list
there : (s p q : List ℕ) (at x : ℕ) → x < 2 ^ 62 → at ≡ length p → s ≡ p ++ (var_bytes x ++ q) → var_at s at ≡ got x (at + var_size x)
there s p q at x h e f = rw (f, e) (var_back p q x h)

-- one round that is not refused
round_on : (s : List ℕ) (n at low gap mid block past : ℕ) → var_at s at ≡ got gap mid → gap + 2 ≤ low → var_at s mid ≡ got block past → block ≤ low - (gap + 2)
    → rounds s (suc n) at low ≡ rounds s n past (low - (gap + 2) - block)
unfolding rounds and_then
round_on s n at low gap mid block past g h k l = rw (g, le-ltb low (gap + 2) h, k, le-ltb (low - (gap + 2)) block l)

-- the rounds over s from a place on, where the rounds' bytes stand
pub record Rounds (s : List ℕ) (at low : ℕ) (rs : List Range) : Type 0 where
  pub scanned : rounds s (length rs) at low ≡ ok (at + length (round_bytes low rs))
  pub passed : round_ranges s (length rs) at low ≡ rs

-- one range in front
in_front : (s : List ℕ) (at low : ℕ) (r : Range) (rs : List Range) (mid past : ℕ) → r.largest + 2 ≤ low → r.smallest ≤ r.largest
    → var_at s at ≡ got (low - r.largest - 2) mid → var_at s mid ≡ got (r.largest - r.smallest) past
    → past + length (round_bytes r.smallest rs) ≡ at + length (round_bytes low (r ∷ rs)) → Rounds s past r.smallest rs → Rounds s at low (r ∷ rs)
in_front s at low r rs mid past h k g b len more =
    let top : low - (low - r.largest - 2 + 2) ≡ r.largest = omega arith in
    let foot : low - (low - r.largest - 2 + 2) - (r.largest - r.smallest) ≡ r.smallest = omega arith in
    let one = round_on s (length rs) at low _ mid _ past g (omega arith) b (omega arith) in
    let pass = round_range s (length rs) at low _ mid _ past g b in
    record {
      scanned = rw foot at one ∙ more.scanned ∙ ap ok len;
      passed = rw (foot, top) at pass ∙ ap (λ (l : List Range). r ∷ l) more.passed;
    }

pub rounds_back : (s : List ℕ) (rs : List Range) (p q : List ℕ) (at low : ℕ) → low < 2 ^ 62 → at ≡ length p → s ≡ p ++ (round_bytes low rs ++ q) → Below low rs
    → Rounds s at low rs
unfolding rounds round_ranges round_numbers vars_bytes
rounds_back s [] p q at low h e f b = record { scanned = ap ok (omega arith); passed = refl }
rounds_back s (r ∷ rs) p q at low h e f b =
    let gap : ℕ = low - r.largest - 2 in
    let block : ℕ = r.largest - r.smallest in
    let x : List ℕ = var_bytes gap in
    let y : List ℕ = var_bytes block in
    let z : List ℕ = round_bytes r.smallest rs in
    let f1 : s ≡ p ++ (x ++ (y ++ (z ++ q))) = f ∙ simp append_assoc in
    let f2 : s ≡ (p ++ x) ++ (y ++ (z ++ q)) = f1 ∙ simp append_assoc in
    let f3 : s ≡ ((p ++ x) ++ y) ++ (z ++ q) = f2 ∙ simp append_assoc in
    let e1 : at + var_size gap ≡ length (p ++ x) = simp (length-append, length_var) (omega arith) in
    let e2 : at + var_size gap + var_size block ≡ length ((p ++ x) ++ y) = simp (length-append, length_var) (omega arith) in
    let len : at + var_size gap + var_size block + length z ≡ at + length (x ++ (y ++ z)) = simp (length-append, length_var) (omega arith) in
    in_front s at low r rs _ _ b.0 b.1.0 (there s p _ at gap (omega arith) e f1) (there s (p ++ x) _ (at + var_size gap) block (omega arith) e1 f2) len
    (rounds_back s rs ((p ++ x) ++ y) q (at + var_size gap + var_size block) r.smallest (omega arith) e2 f3 b.1.1)

-- the scan over s from a place on, where the blocks stand
pub record Scanned (s : List ℕ) (at : ℕ) (r : Range) (rs : List Range) : Type 0 where
  pub whole : scan_at s at r.largest (length rs) ≡ ok (at + length (block_bytes (r ∷ rs)))
  pub passed : ranges_at s at r.largest (length rs) ≡ r ∷ rs

scan_on : (s : List ℕ) (at largest n first after : ℕ) → var_at s at ≡ got first after → first ≤ largest → scan_at s at largest n ≡ rounds s n after (largest - first)
unfolding scan_at and_then
scan_on s at largest n first after e h = rw (e, le-ltb largest first h)

pub scan_back : (s : List ℕ) (r : Range) (rs : List Range) (p q : List ℕ) (at : ℕ) → r.largest < 2 ^ 62 → r.smallest ≤ r.largest → Below r.smallest rs
    → at ≡ length p → s ≡ p ++ (block_bytes (r ∷ rs) ++ q) → Scanned s at r rs
unfolding block_numbers vars_bytes
scan_back s r rs p q at h k b e f =
    let block : ℕ = r.largest - r.smallest in
    let x : List ℕ = var_bytes block in
    let z : List ℕ = round_bytes r.smallest rs in
    let f1 : s ≡ p ++ (x ++ (z ++ q)) = f ∙ simp append_assoc in
    let f2 : s ≡ (p ++ x) ++ (z ++ q) = f1 ∙ simp append_assoc in
    let e1 : at + var_size block ≡ length (p ++ x) = simp (length-append, length_var) (omega arith) in
    let foot : r.largest - block ≡ r.smallest = omega arith in
    let len : at + var_size block + length z ≡ at + length (x ++ z) = simp (length-append, length_var) (omega arith) in
    let g = there s p _ at block (omega arith) e f1 in
    let more = rounds_back s rs (p ++ x) q (at + var_size block) r.smallest (omega arith) e1 f2 b in
    record {
      whole = rw foot at (scan_on s at r.largest (length rs) block _ g (omega arith)) ∙ more.scanned ∙ ap ok len;
      passed = rw foot at (first_range s at r.largest (length rs) block _ g) ∙ ap (λ (l : List Range). r ∷ l) more.passed;
    }
