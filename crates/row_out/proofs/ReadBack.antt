-- What is written by a row is read back by it: proved once, over the list of fields, for every table.
use Rattle.std.specs.Prelude.{if◌then◌else◌}
use mathlib.Core.Path.{◌≡◌, refl, sym, ap, ◌∙◌}
use mathlib.Core.List.{List, [], ◌∷◌, ◌++◌, append_assoc, append-nil, map}
use mathlib.Core.Bool.{Bool, true, false}
use mathlib.Core.Option.{some}
use Prim.Native.Nat.{ℕ, suc, ◌+◌, ◌-◌, ◌%◌, ◌≤◌, ◌<◌, ◌^◌}
use native.Mathlib.Nat.{add_assoc, add-zero}
use native.Mathlib.Omega.{arith}
use lib.Dec.{eqb}
use lib.ListN.{length, length-append}
use borrow.Author.Tests.{le-ltb, ne_eqb}
use Rattle.coding.specs.Words.{got, and_then, ok}
use Rattle.coding.specs.Bytes.{bytes_be}
use Rattle.coding.specs.Places.{part_of}
use Rattle.coding.specs.Varint.{var_size, var_bytes}
use Rattle.coding.proofs.Back.{fixed_back, take_back, part_back, var_back}
use Rattle.coding.proofs.Laws.{length_bytes_be, length_var}
use Rattle.shared.proofs.Laws.{one_byte}
use Rattle.ack.specs.Scan.{scan_at}
use Rattle.frame.specs.Format.{Value, num, none, Said, said, Field, var, or_none, at_most, bytes, rest, fixed, num64, cid, ack_blocks, const, absent, last_read, last_but_one, Read, done, then_read, bytes_at, all_left_at, cid_at, up_to, blocks_at, or_nothing, field_at, fields_at, in_order}
use Rattle.frame.specs.Table.{Row, look, frame_body_at, outcome, taken, frame_at}
use Rattle.frame.proofs.Walks.{step_taken, walk_taken}
use Rattle.row_out.specs.Writing.{Word, raw, word_number, word_bytes, rounds_in, field_bytes, row_bytes, frame_bytes}
use Rattle.row_out.specs.Back.{as_word, Fits, value_at, values_at, WordsFit, word_read, words_read, ReadAs}
use Rattle.row_out.specs.Bounds.{bound_of}
use Rattle.row_out.specs.Limits.{below62, word_numbers, frame_out, vars_out}
use Rattle.row_out.proofs.Laws.{limited_seen, out_seen}
use Rattle.row_out.proofs.InPart.{scan_local}
use Rattle.row_out.proofs.Bounds.{row_bound, data_read}

-- ---- the fields that are more than an integer, each behind p and before q

module _ (p b q : List ℕ) where
  -- a length, and so many bytes
  bytes_back : length b < 2 ^ 62 → bytes_at (p ++ ((var_bytes (length b) ++ b) ++ q)) (length p)
      ≡ got (record { start = length p + var_size (length b); len = length b }) (length p + var_size (length b) + length b)
  unfolding bytes_at and_then
  bytes_back h =
      let l : length (p ++ var_bytes (length b)) ≡ length p + var_size (length b) = simp (length-append, length_var) in
      let t = rw (l, append_assoc p (var_bytes (length b)) (b ++ q)) at (take_back (p ++ var_bytes (length b)) b q) in
      rw (append_assoc (var_bytes (length b)) b q, var_back p (b ++ q) (length b) h) t

  -- a length byte, and so many
  cid_back : 0 < length b → length b ≤ 20
      → cid_at (p ++ ((length b ∷ b) ++ q)) (length p) ≡ done (record { start = length p + 1; len = length b }) (length p + 1 + length b)
  unfolding cid_at and_then
  cid_back h k =
      let e : bytes_be 1 (length b) ≡ length b ∷ [] = one_byte (length b) (omega arith) in
      let f = rw e at (fixed_back p (b ++ q) 1 (length b)) in
      let v : length b % 256 ^ 1 ≡ length b = omega arith in
      let l : length (p ++ (length b ∷ [])) ≡ length p + 1 = length-append p (length b ∷ []) in
      let t = rw (l, append_assoc p (length b ∷ []) (b ++ q)) at (take_back (p ++ (length b ∷ [])) b q) in
      rw (f, v, ne_eqb (length b) 0 (λ z. omega arith), le-ltb 20 (length b) k, t)

  -- a count, and the blocks
  blocks_back : (n largest : ℕ) → n < 2 ^ 62 → scan_at b 0 largest n ≡ ok (length b)
      → blocks_at (p ++ ((var_bytes n ++ b) ++ q)) (length p) largest
      ≡ done (record { start = length p + var_size n; len = length b }) (length p + var_size n + length b)
  unfolding blocks_at and_then up_to
  blocks_back n largest h k =
      let v : List ℕ = var_bytes n in
      let l : length (p ++ v) ≡ length p + var_size n = simp (length-append, length_var) in
      let i = rw (l, add-zero, append_assoc p v (b ++ q)) at (scan_local (p ++ v) b q 0 largest n (length b) k) in
      let e : length p + var_size n + length b - (length p + var_size n) ≡ length b = omega arith in
      rw (append_assoc v b q, var_back p (b ++ q) n h, i, e)

-- all that is left
rest_back_law : (p b : List ℕ) → all_left_at (p ++ (b ++ [])) (length p) ≡ got (record { start = length p; len = length b }) (length p + length b)
unfolding all_left_at
rest_back_law p b =
    let e : length (p ++ (b ++ [])) - length p ≡ length b = simp (append-nil, length-append) (omega arith) in
    rw e (take_back p b [])

-- ---- a field

field_back : (f : Field) (w : Word) (p q : List ℕ) (seen : List Value) (k : Value → ℕ → Read Said) → Fits f w seen q
    → field_at f (p ++ (field_bytes f w ++ q)) (length p) seen k ≡ k (value_at f w (length p)) (length p + length (field_bytes f w))
unfolding field_at field_bytes and_then then_read
field_back var w p q seen k h = rw (var_back p q (word_number w) h, length_var)
field_back or_none w p q seen k h = rw (var_back p q (word_number w) h, length_var)
field_back at_most w p q seen k h = rw (var_back p q (word_number w) h.0, length_var, le-ltb (last_read seen) (word_number w) h.1)
field_back bytes w p q seen k h = rw (bytes_back p (word_bytes w) q h, length-append, length_var, ← add_assoc)
field_back rest w p q seen k h = rw (h, rest_back_law p (word_bytes w))
field_back (fixed m) w p q seen k h = rw (← h, take_back p (word_bytes w) q)
field_back num64 w p q seen k h =
    let e : word_number w % 256 ^ 8 ≡ word_number w = omega arith in
    let l : length (field_bytes num64 w) ≡ 8 = length_bytes_be 8 (word_number w) in
    rw (fixed_back p q 8 (word_number w), e, l)
field_back cid w p q seen k h =
    let e : length p + suc (length (word_bytes w)) ≡ length p + 1 + length (word_bytes w) = omega arith in
    rw (cid_back p (word_bytes w) q h.0 h.1, e)
field_back ack_blocks w p q seen k h =
    rw (blocks_back p (word_bytes w) q (rounds_in (word_bytes w)) (last_but_one seen) h.0 h.1, length-append, length_var, ← add_assoc)
field_back (const n) w p q seen k h = rw add-zero
field_back absent w p q seen k h = rw add-zero

-- ---- a row

pub row_back : (name : ℕ) (fs : List Field) (ws : List Word) (p q : List ℕ) (seen : List Value) → WordsFit fs ws seen (length p) q
    → fields_at name fs (p ++ (row_bytes fs ws ++ q)) (length p) seen
    ≡ done (said name (in_order seen (values_at fs ws (length p)))) (length p + length (row_bytes fs ws))
unfolding fields_at row_bytes
row_back name [] [] p q seen h = rw add-zero
row_back name [] (w ∷ ws) p q seen h = absurd h
row_back name (f ∷ fs) [] p q seen h = absurd h
row_back name (f ∷ fs) (w ∷ ws) p q seen h =
    let b : List ℕ = field_bytes f w in
    let e : length (p ++ b) ≡ length p + length b = length-append p b in
    let ih = row_back name fs ws (p ++ b) q (value_at f w (length p) ∷ seen) (rw e h.1) in
    rw (append_assoc b (row_bytes fs ws) q, length-append b (row_bytes fs ws), ← add_assoc)
    (field_back f w p (row_bytes fs ws ++ q) seen _ h.0 ∙ rw (e, append_assoc p b (row_bytes fs ws ++ q)) at ih)

-- ---- a frame, wherever it stands: the first type of its row, the values of its words, and the place past it

pub frame_back : (rows : List Row) (t : ℕ) (r : Row) (ws : List Word) (p q : List ℕ) → look rows t ≡ some r → t < 2 ^ 62
    → WordsFit (r.fields t) ws [] (length p + var_size t) q
    → frame_at rows (p ++ (frame_bytes rows t ws ++ q)) (length p)
    ≡ taken t (said r.first (values_at (r.fields t) ws (length p + var_size t))) (length p + length (frame_bytes rows t ws))
unfolding frame_at frame_body_at frame_bytes and_then outcome
frame_back rows t r ws p q e h k =
    let b : List ℕ = row_bytes (r.fields t) ws in
    let l : length (p ++ var_bytes t) ≡ length p + var_size t = simp (length-append, length_var) in
    let i = rw l at (row_back r.first (r.fields t) ws (p ++ var_bytes t) q [] (rw l k)) in
    let j = rw (append_assoc p (var_bytes t) (b ++ q)) at i in
    rw (e, append_assoc (var_bytes t) b q, var_back p (b ++ q) t h, e, j, length-append, length_var, add_assoc)

-- ---- and the values say the words

-- a value is a number or nothing: no bytes are looked at
same_none : (s : List ℕ) (x : ℕ) (b : Bool) → as_word s (if b then none else num x) ≡ as_word [] (if b then none else num x)
same_none s x true = refl
same_none s x false = refl

-- bytes behind p and others, as a part of the whole
behind : (p v b q : List ℕ) (n : ℕ) → length v ≡ n → part_of (p ++ ((v ++ b) ++ q)) (record { start = length p + n; len = length b }) ≡ b
behind p v b q n e =
    let l : length (p ++ v) ≡ length p + n = length-append p v ∙ ap (λ (m : ℕ). length p + m) e in
    rw (append_assoc v b q) (rw (l, append_assoc p v (b ++ q)) at (part_back (p ++ v) b q))

word_back : (f : Field) (w : Word) (p q : List ℕ) (seen : List Value) → Fits f w seen q
    → as_word (p ++ (field_bytes f w ++ q)) (value_at f w (length p)) ≡ word_read f w
unfolding field_bytes or_nothing
word_back var w p q seen h = refl
word_back or_none w p q seen h = same_none _ (word_number w) (eqb (word_number w) 0)
word_back at_most w p q seen h = refl
word_back bytes w p q seen h = ap raw (behind p (var_bytes (length (word_bytes w))) (word_bytes w) q _ (length_var _))
word_back rest w p q seen h = ap raw (part_back p (word_bytes w) q)
word_back (fixed m) w p q seen h = rw (← h) (ap raw (part_back p (word_bytes w) q))
word_back num64 w p q seen h = refl
word_back cid w p q seen h = ap raw (behind p (length (word_bytes w) ∷ []) (word_bytes w) q 1 refl)
word_back ack_blocks w p q seen h = ap raw (behind p (var_bytes (rounds_in (word_bytes w))) (word_bytes w) q _ (length_var _))
word_back (const n) w p q seen h = sym h
word_back absent w p q seen h = sym h

pub words_back : (fs : List Field) (ws : List Word) (p q : List ℕ) (seen : List Value) → WordsFit fs ws seen (length p) q
    → map (as_word (p ++ (row_bytes fs ws ++ q))) (values_at fs ws (length p)) ≡ words_read fs ws
unfolding row_bytes
words_back [] [] p q seen h = refl
words_back [] (w ∷ ws) p q seen h = absurd h
words_back (f ∷ fs) [] p q seen h = absurd h
words_back (f ∷ fs) (w ∷ ws) p q seen h =
    let b : List ℕ = field_bytes f w in
    let e : length (p ++ b) ≡ length p + length b = length-append p b in
    let ih = words_back fs ws (p ++ b) q (value_at f w (length p) ∷ seen) (rw e h.1) in
    let i = rw (e, append_assoc p b (row_bytes fs ws ++ q)) at ih in
    ap (λ (s : List ℕ). map (as_word (p ++ s)) (values_at (f ∷ fs) (w ∷ ws) (length p))) (append_assoc b (row_bytes fs ws) q)
    ∙ rw (word_back f w p (row_bytes fs ws ++ q) seen h.0, i)

-- ---- both together: a frame that was written is read as its words

pub read_as : (rows : List Row) (t : ℕ) (r : Row) (ws : List Word) (p q : List ℕ) → look rows t ≡ some r → t < 2 ^ 62
    → WordsFit (r.fields t) ws [] (length p + var_size t) q → ReadAs rows t r.first (words_read (r.fields t) ws) p (frame_bytes rows t ws) q
unfolding frame_bytes bound_of
read_as rows t r ws p q e h k =
    let l : length (p ++ var_bytes t) ≡ length p + var_size t = simp (length-append, length_var) in
    let w = words_back (r.fields t) ws (p ++ var_bytes t) q [] (rw l k) in
    let b : List ℕ = row_bytes (r.fields t) ws in
    record {
      values = values_at (r.fields t) ws (length p + var_size t);
      read = λ fits. step_taken rows _ _ _ _ _ fits (frame_back rows t r ws p q e h k);
      walked = λ turns. walk_taken rows _ turns _ _ _ _ (frame_back rows t r ws p q e h k);
      say = rw (e, append_assoc (var_bytes t) b q) (rw (l, append_assoc p (var_bytes t) (b ++ q)) at w);
      short = rw (e, data_read (r.fields t) ws, length-append, length_var) (omega (arith, row_bound (r.fields t) ws [] (length p + var_size t) q k));
    }

-- what an encoder wrote: its integers ys say that the words fit
pub out_read : (rows : List Row) (t : ℕ) (r : Row) (ws : List Word) (ys d bs p q : List ℕ) → frame_out rows t ws ≡ vars_out ys d → frame_out rows t ws ≡ ok bs
    → look rows t ≡ some r → t < 2 ^ 62 → (below62 ys ≡ true → WordsFit (r.fields t) ws [] (length p + var_size t) q)
    → ReadAs rows t r.first (words_read (r.fields t) ws) p bs q
unfolding frame_out
out_read rows t r ws ys d bs p q v o e h k =
    let s = limited_seen (word_numbers ws) (frame_bytes rows t ws) bs o in
    let u = out_seen ys d bs (sym v ∙ o) in
    rw (← s.same) (read_as rows t r ws p q e h (k u.small))
