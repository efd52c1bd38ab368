-- What each encoder's code hands on, integers and then bytes, makes the bytes of its row.
use Rattle.std.specs.Prelude.{if◌then◌else◌}
use Rattle.std.specs.Int.{from_bool}
use mathlib.Core.Path.{◌≡◌, refl}
use mathlib.Core.List.{List, [], ◌∷◌, ◌++◌, append_assoc, append-nil}
use mathlib.Core.Bool.{Bool, true, false, not}
use Prim.Native.Nat.{ℕ, ◌+◌, ◌-◌, ◌*◌, ◌≤◌, ◌<◌, ◌^◌}
use native.Mathlib.Omega.{arith}
use lib.ListN.{length, length-append}
use lib.Dec.{ltb, eqb}
use borrow.Author.Tests.{ltb-false, eqb-false, lt-ltb, le-ltb, ne_eqb}
use Rattle.coding.specs.Words.{no, ok}
use Rattle.coding.specs.Varint.{var_bytes}
use Rattle.coding.specs.Writing.{Put}
use Rattle.coding.proofs.Writes.{So, put_so, so_put}
use Rattle.shared.specs.Cid.{cid_bytes, long_bytes, long_put}
use Rattle.shared.specs.declared.cid.ConnectionId.{ConnectionId}
use Rattle.shared.proofs.Laws.{length_long, long_some}
use Rattle.frame.specs.Table.{table}
use Rattle.row_out.specs.Writing.{Word, number, raw, nothing, word_number, field_bytes, row_bytes, frame_bytes}
use Rattle.row_out.specs.Limits.{below62, limited, word_numbers, frame_out, vars_bytes, vars_out, stored}
use Rattle.row_out.proofs.Laws.{below_at, below_not, vars_bound, limited_past, limited_seen, Held, out_ok, vals_same}
use Rattle.frame_out.specs.Frames.{ecn_out, stream_type, stream_words, meta_bytes, meta_out, crypto_out, new_token_out, reset_stream_out, stop_sending_out, new_cid_out, datagram_out, ack_frequency_out}

pub ecn_vals : (a b c : ℕ) → ecn_out a b c ≡ vars_out (a ∷ b ∷ c ∷ []) []
unfolding ecn_out row_bytes field_bytes vars_bytes
ecn_vals a b c = vals_same _ _ _ _ (simp (append_assoc, append-nil)) (λ h. refl)

pub crypto_vals : (offset : ℕ) (d : List ℕ) → crypto_out offset d ≡ vars_out (0x06 ∷ offset ∷ length d ∷ []) d
unfolding crypto_out frame_out frame_bytes table row_bytes field_bytes word_numbers vars_bytes below62
crypto_vals offset d = vals_same _ _ _ _ (simp (append_assoc, append-nil)) (λ h. rw (lt-ltb (length d) (2 ^ 62) (omega arith)))

pub token_vals : (d : List ℕ) → new_token_out d ≡ vars_out (0x07 ∷ length d ∷ []) d
unfolding new_token_out frame_out frame_bytes table row_bytes field_bytes word_numbers vars_bytes below62
token_vals d = vals_same _ _ _ _ (simp (append_assoc, append-nil)) (λ h. rw (lt-ltb (length d) (2 ^ 62) (omega arith)))

pub reset_vals : (id code size : ℕ) → reset_stream_out id code size ≡ vars_out (0x04 ∷ id ∷ code ∷ size ∷ []) []
unfolding reset_stream_out frame_out frame_bytes table row_bytes field_bytes word_numbers vars_bytes below62
reset_vals id code size = vals_same _ _ _ _ (simp (append_assoc, append-nil)) (λ h. refl)

pub stop_vals : (id code : ℕ) → stop_sending_out id code ≡ vars_out (0x05 ∷ id ∷ code ∷ []) []
unfolding stop_sending_out frame_out frame_bytes table row_bytes field_bytes word_numbers vars_bytes below62
stop_vals id code = vals_same _ _ _ _ (simp (append_assoc, append-nil)) (λ h. refl)

pub frequency_vals : (a b c d : ℕ) → ack_frequency_out a b c d ≡ vars_out (0xaf ∷ a ∷ b ∷ c ∷ d ∷ []) []
unfolding ack_frequency_out frame_out frame_bytes table row_bytes field_bytes word_numbers vars_bytes below62
frequency_vals a b c d = vals_same _ _ _ _ (simp (append_assoc, append-nil)) (λ h. refl)

-- ---- a datagram, with its length and without

abbrev pub datagram_vals : Bool → ℕ → List ℕ
datagram_vals true n = 0x31 ∷ n ∷ []
datagram_vals false n = 0x30 ∷ []

pub datagram_vals_law : (len : Bool) (d : List ℕ) → datagram_out len d ≡ vars_out (datagram_vals len (length d)) d
unfolding datagram_out frame_out frame_bytes table row_bytes field_bytes word_numbers vars_bytes below62
datagram_vals_law true d = vals_same _ _ _ _ (simp (append_assoc, append-nil)) (λ h. rw (lt-ltb (length d) (2 ^ 62) (omega arith)))
datagram_vals_law false d = vals_same _ _ _ _ (simp append-nil) (λ h. refl)

-- ---- a close, of a reason that is cut

pub connection_vals : (code : ℕ) (ty : Word) (d : List ℕ)
    → frame_out table 0x1c (number code ∷ ty ∷ raw d ∷ []) ≡ vars_out (0x1c ∷ code ∷ word_number ty ∷ length d ∷ []) d
unfolding frame_out frame_bytes table row_bytes field_bytes word_numbers vars_bytes below62
connection_vals code (number n) d = vals_same _ _ _ _ (simp (append_assoc, append-nil)) (λ h. rw (lt-ltb (length d) (2 ^ 62) (omega arith)))
connection_vals code (raw bs) d = vals_same _ _ _ _ (simp (append_assoc, append-nil)) (λ h. rw (lt-ltb (length d) (2 ^ 62) (omega arith)))
connection_vals code nothing d = vals_same _ _ _ _ (simp (append_assoc, append-nil)) (λ h. rw (lt-ltb (length d) (2 ^ 62) (omega arith)))

pub application_vals : (code : ℕ) (d : List ℕ) → frame_out table 0x1d (number code ∷ raw d ∷ []) ≡ vars_out (0x1d ∷ code ∷ length d ∷ []) d
unfolding frame_out frame_bytes table row_bytes field_bytes word_numbers vars_bytes below62
application_vals code d = vals_same _ _ _ _ (simp (append_assoc, append-nil)) (λ h. rw (lt-ltb (length d) (2 ^ 62) (omega arith)))

-- ---- a stream frame up to its data

abbrev pub when : Bool → ℕ → List ℕ
when true x = x ∷ []
when false x = []

abbrev pub unless : Bool → ℕ → List ℕ
unless true x = []
unless false x = x ∷ []

-- an end below its start, or past its limit, is refused
module _ (id start end : ℕ) (fin len : Bool) where
  pub meta_below : end < start → meta_out id start end fin len ≡ no 14
  unfolding meta_out
  meta_below h = rw (lt-ltb end start h)

  pub meta_past : start ≤ end → 2 ^ 62 ≤ end → meta_out id start end fin len ≡ no 14
  unfolding meta_out
  meta_past h k = rw (le-ltb end start h) (limited_past _ _ (below_not (id ∷ end ∷ []) 1 (omega arith) k))

  -- what was written keeps both rules
  pub meta_seen : (bs : List ℕ) → meta_out id start end fin len ≡ ok bs → (start ≤ end) × (id < 2 ^ 62) × (end < 2 ^ 62) × (meta_bytes id start end fin len ≡ bs)
  unfolding meta_out
  meta_seen bs = go (ltb end start) refl
    where
      go : (t : Bool) → ltb end start ≡ t → (if t then no 14 else limited (id ∷ end ∷ []) (meta_bytes id start end fin len)) ≡ ok bs
          → (start ≤ end) × (id < 2 ^ 62) × (end < 2 ^ 62) × (meta_bytes id start end fin len ≡ bs)
      go true e h = let z : ◌≡◌ {A = ℕ} 0 1 = cc in absurd (omega arith)
      go false e h =
          let s = limited_seen (id ∷ end ∷ []) (meta_bytes id start end fin len) bs h in
          (ltb-false end start e, below_at (id ∷ end ∷ []) 0 s.small (omega arith), below_at (id ∷ end ∷ []) 1 s.small (omega arith), s.same)

-- the type, whether the start is 0 or not
abbrev pub type_by : Bool → Bool → Bool → ℕ
type_by z fin len = 0x08 + (if z then 0 else 4) + (if len then 2 else 0) + (if fin then 1 else 0)

-- as a sum of bits
pub type_bits : (z fin len : Bool) → 8 + 4 * from_bool (not z) + 2 * from_bool len + 1 * from_bool fin ≡ type_by z fin len
type_bits true true true = refl
type_bits true true false = refl
type_bits true false true = refl
type_bits true false false = refl
type_bits false true true = refl
type_bits false true false = refl
type_bits false false true = refl
type_bits false false false = refl

module _ (id start end : ℕ) (ordered : start ≤ end) (small : end < 2 ^ 62) where
  end_fits : ltb end (2 ^ 62) ≡ true
  end_fits = lt-ltb end (2 ^ 62) small

  start_fits : ltb start (2 ^ 62) ≡ true
  start_fits = lt-ltb start (2 ^ 62) (omega arith)

  len_fits : ltb (end - start) (2 ^ 62) ≡ true
  len_fits = lt-ltb (end - start) (2 ^ 62) (omega arith)

  by_bits : (z fin len : Bool)
      → limited (id ∷ end ∷ []) (frame_bytes table (type_by z fin len) (stream_words id start fin len) ++ (if len then var_bytes (end - start) else []))
      ≡ vars_out (type_by z fin len ∷ id ∷ (unless z start ++ when len (end - start))) []
  unfolding stream_words frame_bytes table row_bytes field_bytes vars_bytes below62
  by_bits true true true = vals_same _ _ _ _ (simp (append_assoc, append-nil)) (λ h. simp (end_fits, len_fits))
  by_bits true true false = vals_same _ _ _ _ (simp (append_assoc, append-nil)) (λ h. simp end_fits)
  by_bits true false true = vals_same _ _ _ _ (simp (append_assoc, append-nil)) (λ h. simp (end_fits, len_fits))
  by_bits true false false = vals_same _ _ _ _ (simp (append_assoc, append-nil)) (λ h. simp end_fits)
  by_bits false true true = vals_same _ _ _ _ (simp (append_assoc, append-nil)) (λ h. simp (end_fits, start_fits, len_fits))
  by_bits false true false = vals_same _ _ _ _ (simp (append_assoc, append-nil)) (λ h. simp (end_fits, start_fits))
  by_bits false false true = vals_same _ _ _ _ (simp (append_assoc, append-nil)) (λ h. simp (end_fits, start_fits, len_fits))
  by_bits false false false = vals_same _ _ _ _ (simp (append_assoc, append-nil)) (λ h. simp (end_fits, start_fits))

  meta_vals : (z fin len : Bool) → eqb start 0 ≡ z
      → meta_out id start end fin len ≡ vars_out (stream_type start fin len ∷ id ∷ (unless z start ++ when len (end - start))) []
  unfolding meta_out meta_bytes stream_type
  meta_vals z fin len e = rw (le-ltb end start ordered, e) (by_bits z fin len)

  -- as the code has them: the type by what was answered, the length by what was seen
  pub meta_out_law : (z fin len l : Bool) (ty : ℕ) → eqb start 0 ≡ z → len ≡ l → ty ≡ stream_type start fin len
      → meta_out id start end fin len ≡ vars_out (ty ∷ id ∷ (unless z start ++ when l (end - start))) []
  meta_out_law z fin len l ty e q k = rw (k, q) (meta_vals z fin l e)

-- ---- a connection id and its reset token

module _ (sequence retire : ℕ) (id : ConnectionId) (token : List ℕ) (ordered : retire ≤ sequence) (some : id.len ≡ 0 → ⊥) (short : id.len ≤ 20) where
  pub cid_frame : new_cid_out sequence retire id token ≡ frame_out table 0x18 (number sequence ∷ number retire ∷ raw (cid_bytes id) ∷ raw token ∷ [])
  unfolding new_cid_out
  cid_frame = rw (le-ltb sequence retire ordered, ne_eqb id.len 0 some, le-ltb 20 id.len short)

  pub cid_vals : length (cid_bytes id) ≡ id.len → new_cid_out sequence retire id token ≡ vars_out (0x18 ∷ sequence ∷ retire ∷ []) (long_bytes id ++ token)
  unfolding long_bytes frame_out frame_bytes table row_bytes field_bytes word_numbers vars_bytes below62
  cid_vals e = rw (cid_frame, e) (vals_same _ _ _ _ (simp (append_assoc, append-nil)) (λ q. refl))

-- what was written keeps all rules
pub cid_seen : (sequence retire : ℕ) (id : ConnectionId) (token bs : List ℕ) → new_cid_out sequence retire id token ≡ ok bs
    → (retire ≤ sequence) × ((id.len ≡ 0 → ⊥) × (id.len ≤ 20))
unfolding new_cid_out
cid_seen sequence retire id token bs = go (ltb sequence retire) (eqb id.len 0) (ltb 20 id.len) refl refl refl
  where
    go : (t u v : Bool) → ltb sequence retire ≡ t → eqb id.len 0 ≡ u → ltb 20 id.len ≡ v
        → (if t then no 14 else if u then no 14 else if v then no 14 else frame_out table 0x18 (number sequence ∷ number retire ∷ raw (cid_bytes id) ∷ raw token ∷ [])) ≡ ok bs
        → (retire ≤ sequence) × ((id.len ≡ 0 → ⊥) × (id.len ≤ 20))
    go true u v a b c h = let z : ◌≡◌ {A = ℕ} 0 1 = cc in absurd (omega arith)
    go false true v a b c h = let z : ◌≡◌ {A = ℕ} 0 1 = cc in absurd (omega arith)
    go false false true a b c h = let z : ◌≡◌ {A = ℕ} 0 1 = cc in absurd (omega arith)
    go false false false a b c h = (ltb-false sequence retire a, (eqb-false id.len 0 b, ltb-false 20 id.len c))

-- integers, the connection id behind its length and the token: n is what the integers take
module _ (xs : List ℕ) (id : ConnectionId) (token : List ℕ) (n : ℕ)
    (few : length xs ≤ 3) (array : length id.bytes ≡ 20) (short : id.len ≤ 20) (sixteen : length token ≡ 16) (h : Held xs [] n) where
  pub id_held : Held xs (long_bytes id ++ token) (n + (17 + id.len))
  id_held =
      let l = length-append (long_bytes id) token in
      let m = length_long id (omega arith) in
      let b = vars_bound xs h.small in
      record { small = h.small; short = omega (arith, h.long); long = omega (arith, h.long) }

  -- the three puts, one behind the other
  pub id_puts : {old a b new : List ℕ} {s t r : ℕ} → n + (17 + id.len) ≤ length old
      → Put (stored (vars_out xs [])) old 0 s a → Put (long_put id) a s t b → Put token b t r new → So old 0 (vars_bytes xs ++ (long_bytes id ++ token)) r new
  unfolding stored
  id_puts room p q r =
      let l = length_long id (omega arith) in
      let k = h.long in
      let u = put_so _ _ _ (omega arith) (rw (out_ok xs [] n h, append-nil) at p) in
      let v = so_put u (omega arith) (rw (long_some id short) at q) in
      let m = length-append (vars_bytes xs) (long_bytes id) in
      rw append_assoc at (so_put v (omega arith) r)
