-- How long the text of a datagram is at most, and how long a line.
use mathlib.Core.Path.{◌≡◌, refl}
use mathlib.Core.List.{List, [], ◌∷◌}
use mathlib.Core.Bool.{Bool, true, false, ◌||◌}
use mathlib.Core.Option.{none}
use Prim.Native.Nat.{ℕ, zero, suc, ◌+◌, ◌-◌, ◌*◌, ◌^◌, ◌≤◌, ◌<◌}
use native.Mathlib.Omega.{arith}
use lib.ListN.{length, drop, length-append, length-drop}
use lib.Dec.{ltb}
use borrow.Author.Tests.{ltb-true, ltb-false}
use Rattle.coding.specs.Words.{Answer, no, ok}
use Rattle.packet.specs.Header.{Header, initial, zero_rtt, handshake, retry, short, negotiate, Outcome, outside, length_in}
use Rattle.packet.specs.Split.{Split}
use Rattle.packet.specs.Walk.{PacketStep, step_on, stop_at, packets_from, walk_at}
use Rattle.packet.proofs.Within.{least}
use Rattle.packet.proofs.Splits.{split_taken, split_refused}
use Rattle.packet.proofs.Walks.{first, size, met_no, met_ok, walk_no, walk_last, walk_more, walk_refused, header_outside, least_pos, step_out, step_empty, step_end, step_in}
use Rattle.text.proofs.Laws.{length_below}
use Rattle.dump_text.specs.Turns.{line_at}
use Rattle.dump_text.specs.Dump.{number_then, kind_word, packet_line, refused_line, total_line, line_of, after_of, lines_of, dump_text}

-- ---- a line

-- a number below 10^d has at most d digits
module _ (d : ℕ) (some : 1 ≤ d) where
  word_le : (x c : ℕ) → x < 10 ^ d → length (number_then x c) ≤ d + 1
  unfolding number_then
  word_le x c h = simp length-append (omega (arith, length_below d x some h))

kind_le : (a : Answer Header) → length (kind_word a) ≤ 10
kind_le (no k) = omega arith
kind_le (ok (initial token len)) = omega arith
kind_le (ok (zero_rtt len)) = omega arith
kind_le (ok (handshake len)) = omega arith
kind_le (ok retry) = omega arith
kind_le (ok (short spin)) = omega arith
kind_le (ok (negotiate bits)) = omega arith

module _ (d : ℕ) (some : 1 ≤ d) where
  packet_le : (start len : ℕ) (h : Outcome) → start < 10 ^ d → len < 10 ^ d → h.end < 10 ^ d → length (packet_line start len h) ≤ 3 * d + 13
  unfolding packet_line
  packet_le start len h a b c =
      simp length-append (omega (arith, word_le d some start 0x20 a, word_le d some len 0x20 b, kind_le h.said, word_le d some h.end 0x0a c))

  refused_le : (start k : ℕ) → start < 10 ^ d → k < 10 ^ d → length (refused_line start k) ≤ 2 * d + 10
  unfolding refused_line
  refused_le start k a b = simp length-append (omega (arith, word_le d some start 0x20 a, word_le d some k 0x0a b))

  end_le : (total : ℕ) → total < 10 ^ d → length (total_line total) ≤ d + 5
  unfolding total_line
  end_le total a = simp length-append (omega (arith, word_le d some total 0x0a a))

-- a packet with a rest has 8 bytes or more
with_length : (h : Header) → (length_in (ok h) ≡ none → ⊥) → 8 ≤ least h
with_length (initial token len) n = omega arith
with_length (zero_rtt len) n = omega arith
with_length (handshake len) n = omega arith
with_length retry n = absurd (n refl)
with_length (short spin) n = absurd (n refl)
with_length (negotiate bits) n = absurd (n refl)

-- ---- the text from a packet on

abbrev one : List ℕ → Split
one s = first 0 (1 ∷ []) false s

module _ (total : ℕ) (small : total < 65528) where
  abbrev Fits : ℕ → ℕ → List ℕ → Type 0
  Fits turns start s = length (lines_of total (packets_from turns start s 0 (1 ∷ []) false)) ≤ 4 * length s + 45

  fits_no : (turns start : ℕ) (s : List ℕ) (k : ℕ) → start ≤ total → (one s).header.said ≡ no k → Fits turns start s
  unfolding lines_of line_of after_of step_on
  fits_no turns start s k l e =
      let r = split_refused s 0 (1 ∷ []) false k e in
      rw (walk_no 0 (1 ∷ []) false turns start s k e, met_no start (one s) k e, e)
      (simp length-append (omega (arith, refused_le 5 (omega arith) start k (omega arith) (omega arith))))

  module _ (s : List ℕ) (h : Header) (e : (one s).header.said ≡ ok h) (start : ℕ) (l : start + length s ≤ total) where
    fits_last : (turns : ℕ) → length s ≤ size 0 (1 ∷ []) false s → Fits turns start s
    unfolding lines_of line_of after_of step_on
    fits_last turns m =
        let t = split_taken s 0 (1 ∷ []) false h e in
        rw (walk_last 0 (1 ∷ []) false s h e turns start m, met_ok start (one s) h e)
        (simp length-append (omega (arith, packet_le 5 (omega arith) start (one s).packet.len (one s).header (omega arith) (omega arith) (omega arith), end_le 5 (omega arith) total (omega arith))))

    fits_more : (turns : ℕ) → size 0 (1 ∷ []) false s < length s
        → Fits turns (start + size 0 (1 ∷ []) false s) (drop (size 0 (1 ∷ []) false s) s) → Fits (suc turns) start s
    unfolding lines_of line_of after_of step_on
    fits_more turns m f =
        let t = split_taken s 0 (1 ∷ []) false h e in
        let w : 8 ≤ least h = with_length h (λ q. omega (arith, t.whole q)) in
        let d : length (drop (size 0 (1 ∷ []) false s) s) ≡ length s - size 0 (1 ∷ []) false s = length-drop (size 0 (1 ∷ []) false s) s in
        rw (walk_more 0 (1 ∷ []) false s h e turns start m, met_ok start (one s) h e)
        (simp length-append (omega (arith, f, packet_le 5 (omega arith) start (one s).packet.len (one s).header (omega arith) (omega arith) (omega arith))))

  -- one packet and what follows it
  fits_one : (turns start : ℕ) (s : List ℕ) → start + length s ≤ total
      → ((n : ℕ) → 0 < n → n < length s → Fits turns (start + n) (drop n s)) → Fits (suc turns) start s
  fits_one turns start s l again = go (one s).header.said (ltb (size 0 (1 ∷ []) false s) (length s)) refl refl
    where
      go : (a : Answer Header) (b : Bool) → (one s).header.said ≡ a → ltb (size 0 (1 ∷ []) false s) (length s) ≡ b → Fits (suc turns) start s
      go (no k) b e f = fits_no (suc turns) start s k (omega arith) e
      go (ok h) false e f = fits_last s h e start l (suc turns) (ltb-false _ _ f)
      go (ok h) true e f =
          let i : size 0 (1 ∷ []) false s < length s = ltb-true _ _ f in
          let t = split_taken s 0 (1 ∷ []) false h e in
          let p = least_pos h in
          fits_more s h e start l turns i (again (size 0 (1 ∷ []) false s) (omega arith) i)

  fits_none : (start : ℕ) (s : List ℕ) → start + length s ≤ total → length s ≤ 0 → Fits 0 start s
  fits_none start s l z = go (one s).header.said refl
    where
      go : (a : Answer Header) → (one s).header.said ≡ a → Fits 0 start s
      go (no k) e = fits_no 0 start s k (omega arith) e
      go (ok h) e = fits_last s h e start l 0 (omega arith)

  fits : (turns start : ℕ) (s : List ℕ) → start + length s ≤ total → length s ≤ turns → Fits turns start s
  fits zero start s l t = fits_none start s l t
  fits (suc turns) start s l t =
      fits_one turns start s l (λ n p k.
      let d : length (drop n s) ≡ length s - n = length-drop n s in
      fits turns (start + n) (drop n s) (omega arith) (omega arith))

-- ---- the whole text

-- past 65,527 bytes it is one line
long_text : (s : List ℕ) → outside s 0 (1 ∷ []) ≡ true → length (dump_text s) ≤ 64
unfolding dump_text walk_at lines_of line_of after_of stop_at
long_text s o =
    rw (walk_refused s 0 (1 ∷ []) false 14 (header_outside s 0 (1 ∷ []) false o))
    (simp length-append (omega (arith, refused_le 5 (omega arith) 0 14 (omega arith) (omega arith))))

small_text : (s : List ℕ) → length s < 65528 → length (dump_text s) ≤ 4 * length s + 64
unfolding dump_text walk_at
small_text s h = omega (arith, fits (length s) h (length s) 0 s (omega arith) (omega arith))

not_outside : (s : List ℕ) → outside s 0 (1 ∷ []) ≡ false → length s < 65528
unfolding outside
not_outside s = go (ltb 65527 (length s)) refl
  where
    go : (b : Bool) → ltb 65527 (length s) ≡ b → (b || ltb 20 0 || ltb 16 1) ≡ false → length s < 65528
    go true e f = let z : ◌≡◌ {A = ℕ} 0 1 = cc in absurd (omega arith)
    go false e f = let l : length s ≤ 65527 = ltb-false _ _ e in omega arith

-- four bytes for each byte of the datagram and 64 are enough; and it is never long
pub text_fits : (s : List ℕ) → (length (dump_text s) ≤ 4 * length s + 64) × (length (dump_text s) ≤ 262172)
text_fits s = go (outside s 0 (1 ∷ [])) refl
  where
    go : (b : Bool) → outside s 0 (1 ∷ []) ≡ b → (length (dump_text s) ≤ 4 * length s + 64) × (length (dump_text s) ≤ 262172)
    go true o = let l = long_text s o in (omega arith, omega arith)
    go false o = let k = not_outside s o in let l = small_text s k in (omega arith, omega arith)

-- ---- the line of a step at any place, of 80 bytes at most

module _ (s : List ℕ) (at : ℕ) (l : length s < 2 ^ 64) (k : at < 2 ^ 64) where
  abbrev Short : PacketStep → Type 0
  Short x = length (line_of (length s) x.met x.header) ≤ 80

  stop_le : (n : ℕ) → n ≤ 14 → Short (stop_at at n)
  unfolding stop_at line_of
  stop_le n h = omega (arith, refused_le 20 (omega arith) at n (omega arith) (omega arith))

  on_le : (x : Split) → x ≡ one (drop at s) → (a : Answer Header) → x.header.said ≡ a → Short (step_on at x)
  unfolding step_on line_of
  on_le x q (no n) e =
      let r = split_refused (drop at s) 0 (1 ∷ []) false n (rw q at e) in
      rw (met_no at x n e, e) (omega (arith, refused_le 20 (omega arith) at n (omega arith) (omega arith)))
  on_le x q (ok h) e =
      let t = rw (← q) at (split_taken (drop at s) 0 (1 ∷ []) false h (rw q at e)) in
      let d : length (drop at s) ≡ length s - at = length-drop at s in
      rw (met_ok at x h e) (omega (arith, packet_le 20 (omega arith) at x.packet.len x.header (omega arith) (omega arith) (omega arith)))

  pub line_short : length (line_at s at) ≤ 80
  unfolding line_at line_of
  line_short = go (outside s 0 (1 ∷ [])) (ltb 0 (length s)) (ltb at (length s)) refl refl refl
    where
      go : (a b c : Bool) → outside s 0 (1 ∷ []) ≡ a → ltb 0 (length s) ≡ b → ltb at (length s) ≡ c → length (line_at s at) ≤ 80
      go true b c o f g = rw (step_out s 0 (1 ∷ []) false at o) (stop_le 14 (omega arith))
      go false false c o f g = let z : length s ≤ 0 = ltb-false _ _ f in rw (step_empty s 0 (1 ∷ []) false o at (omega arith)) (stop_le 1 (omega arith))
      go false true false o f g =
          rw (step_end s 0 (1 ∷ []) false o at (ltb-true _ _ f) (ltb-false _ _ g)) (omega (arith, end_le 20 (omega arith) (length s) (omega arith)))
      go false true true o f g = rw (step_in s 0 (1 ∷ []) false o at (ltb-true _ _ g)) (on_le (one (drop at s)) refl _ refl)
