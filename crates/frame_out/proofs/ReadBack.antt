-- What each encoder wrote is handed out by the step as its words, wherever it stands, behind p and before q, and is no longer than
-- its bound.
use Rattle.std.specs.Prelude.{if◌then◌else◌}
use mathlib.Core.Path.{◌≡◌, refl, sym, ap, ◌∙◌}
use mathlib.Core.List.{List, [], ◌∷◌, ◌++◌, append_assoc, append-nil}
use mathlib.Core.Bool.{Bool, true, false}
use Prim.Native.Nat.{ℕ, zero, suc, ◌+◌, ◌-◌, ◌<◌, ◌^◌}
use native.Mathlib.Omega.{arith}
use lib.ListN.{length, take}
use lib.Dec.{eqb}
use borrow.Author.Tests.{eqb-true}
use Rattle.coding.specs.Words.{ok}
use Rattle.coding.specs.Varint.{var_bytes}
use Rattle.shared.specs.Cid.{cid_bytes, long_bytes}
use Rattle.shared.specs.declared.cid.ConnectionId.{ConnectionId}
use Rattle.shared.proofs.Laws.{length_cid}
use Rattle.frame.specs.Format.{or_none}
use Rattle.frame.specs.Table.{flag, table}
use Rattle.row_out.specs.Writing.{Word, number, raw, word_number, field_bytes, row_bytes, frame_bytes}
use Rattle.row_out.specs.Back.{word_read, ReadAs}
use Rattle.row_out.proofs.Laws.{below_at}
use Rattle.row_out.proofs.ReadBack.{read_as, out_read}
use Rattle.frame_out.specs.Frames.{stream_type, stream_words, meta_bytes, meta_out, crypto_out, new_token_out, reset_stream_out, stop_sending_out, new_cid_out, datagram_out, ack_frequency_out}
use Rattle.frame_out.specs.Closes.{connection, application, fixed_fields, close_with, close_out}
use Rattle.frame_out.proofs.Vals.{crypto_vals, token_vals, reset_vals, stop_vals, frequency_vals, datagram_vals_law, connection_vals, application_vals, type_by, meta_seen, cid_frame, cid_vals, cid_seen}
use Rattle.frame_out.proofs.Cuts.{close_seen}

positive : (n : ℕ) → (n ≡ 0 → ⊥) → 0 < n
positive zero h = absurd (h refl)
positive (suc n) h = omega arith

module _ (p bs q : List ℕ) where
  pub crypto_read : (offset : ℕ) (d : List ℕ) → crypto_out offset d ≡ ok bs → ReadAs table 0x06 0x06 (number offset ∷ raw d ∷ []) p bs q
  unfolding crypto_out table
  crypto_read offset d e =
      let ys : List ℕ = 0x06 ∷ offset ∷ length d ∷ [] in
      out_read table 0x06 _ _ ys d bs p q (crypto_vals offset d) e refl (omega arith)
      (λ b. (below_at ys 1 b (omega arith), (below_at ys 2 b (omega arith), tt)))

  pub token_read : (d : List ℕ) → new_token_out d ≡ ok bs → ReadAs table 0x07 0x07 (raw d ∷ []) p bs q
  unfolding new_token_out table
  token_read d e =
      let ys : List ℕ = 0x07 ∷ length d ∷ [] in
      out_read table 0x07 _ _ ys d bs p q (token_vals d) e refl (omega arith) (λ b. (below_at ys 1 b (omega arith), tt))

  pub reset_read : (id code size : ℕ) → reset_stream_out id code size ≡ ok bs → ReadAs table 0x04 0x04 (number id ∷ number code ∷ number size ∷ []) p bs q
  unfolding reset_stream_out table
  reset_read id code size e =
      let ys : List ℕ = 0x04 ∷ id ∷ code ∷ size ∷ [] in
      out_read table 0x04 _ _ ys [] bs p q (reset_vals id code size) e refl (omega arith)
      (λ b. (below_at ys 1 b (omega arith), (below_at ys 2 b (omega arith), (below_at ys 3 b (omega arith), tt))))

  pub stop_read : (id code : ℕ) → stop_sending_out id code ≡ ok bs → ReadAs table 0x05 0x05 (number id ∷ number code ∷ []) p bs q
  unfolding stop_sending_out table
  stop_read id code e =
      let ys : List ℕ = 0x05 ∷ id ∷ code ∷ [] in
      out_read table 0x05 _ _ ys [] bs p q (stop_vals id code) e refl (omega arith)
      (λ b. (below_at ys 1 b (omega arith), (below_at ys 2 b (omega arith), tt)))

  pub frequency_read : (x y z w : ℕ) → ack_frequency_out x y z w ≡ ok bs → ReadAs table 0xaf 0xaf (number x ∷ number y ∷ number z ∷ number w ∷ []) p bs q
  unfolding ack_frequency_out table
  frequency_read x y z w e =
      let ys : List ℕ = 0xaf ∷ x ∷ y ∷ z ∷ w ∷ [] in
      out_read table 0xaf _ _ ys [] bs p q (frequency_vals x y z w) e refl (omega arith)
      (λ b. (below_at ys 1 b (omega arith), (below_at ys 2 b (omega arith), (below_at ys 3 b (omega arith), (below_at ys 4 b (omega arith), tt)))))

  -- without a length it is the last of its payload
  pub datagram_read : (len : Bool) (d : List ℕ) → datagram_out len d ≡ ok bs → (len ≡ false → q ≡ [])
      → ReadAs table (0x30 + flag len) 0x30 (number (flag len) ∷ raw d ∷ []) p bs q
  unfolding datagram_out table row_bytes
  datagram_read true d e h =
      let ys : List ℕ = 0x31 ∷ length d ∷ [] in
      out_read table 0x31 _ _ ys d bs p q (datagram_vals_law true d) e refl (omega arith) (λ b. (refl, (below_at ys 1 b (omega arith), tt)))
  datagram_read false d e h =
      out_read table 0x30 _ _ (0x30 ∷ []) d bs p q (datagram_vals_law false d) e refl (omega arith) (λ b. (refl, (h refl, tt)))

  -- the array has 20 bytes and the token 16
  pub cid_read : (sequence retire : ℕ) (id : ConnectionId) (token : List ℕ) → length id.bytes ≡ 20 → length token ≡ 16
      → new_cid_out sequence retire id token ≡ ok bs
      → ReadAs table 0x18 0x18 (number sequence ∷ number retire ∷ raw (cid_bytes id) ∷ raw token ∷ []) p bs q
  unfolding table
  cid_read sequence retire id token a t e =
      let s = cid_seen sequence retire id token bs e in
      let f = cid_frame sequence retire id token s.0 s.1.0 s.1.1 in
      let l = length_cid id (omega arith) in
      let pos : 0 < id.len = positive id.len s.1.0 in
      let ys : List ℕ = 0x18 ∷ sequence ∷ retire ∷ [] in
      out_read table 0x18 _ _ ys (long_bytes id ++ token) bs p q (sym f ∙ cid_vals sequence retire id token s.0 s.1.0 s.1.1 l) (sym f ∙ e) refl (omega arith)
      (λ b. (below_at ys 1 b (omega arith), ((below_at ys 2 b (omega arith), s.0), ((omega (arith, l), omega (arith, l)), (t, tt)))))

  -- ---- the closes: of the reason, what is left of it; a frame type 0 reads as none

  pub connection_read : (code : ℕ) (ty : Word) (reason : List ℕ) (max : ℕ) → close_out (connection code ty) reason max ≡ ok bs
      → ReadAs table 0x1c 0x1c (number code ∷ word_read or_none ty ∷ raw (take (max - fixed_fields (connection code ty) (length reason)) reason) ∷ []) p bs q
  unfolding close_with table
  connection_read code ty reason max e =
      let d : List ℕ = take (max - fixed_fields (connection code ty) (length reason)) reason in
      let ys : List ℕ = 0x1c ∷ code ∷ word_number ty ∷ length d ∷ [] in
      out_read table 0x1c _ _ ys d bs p q (connection_vals code ty d) (close_seen (connection code ty) reason max bs e).frame refl (omega arith)
      (λ b. (below_at ys 1 b (omega arith), (below_at ys 2 b (omega arith), (below_at ys 3 b (omega arith), tt))))

  pub application_read : (code : ℕ) (reason : List ℕ) (max : ℕ) → close_out (application code) reason max ≡ ok bs
      → ReadAs table 0x1d 0x1d (number code ∷ raw (take (max - fixed_fields (application code) (length reason)) reason) ∷ []) p bs q
  unfolding close_with table
  application_read code reason max e =
      let d : List ℕ = take (max - fixed_fields (application code) (length reason)) reason in
      let ys : List ℕ = 0x1d ∷ code ∷ length d ∷ [] in
      out_read table 0x1d _ _ ys d bs p q (application_vals code d) (close_seen (application code) reason max bs e).frame refl (omega arith)
      (λ b. (below_at ys 1 b (omega arith), (below_at ys 2 b (omega arith), tt)))

-- ---- a stream frame's head and so many bytes of data; without a length it is the last of its payload

module _ (p d q : List ℕ) (id start : ℕ) (id-small : id < 2 ^ 62) (start_small : start < 2 ^ 62) (data-small : length d < 2 ^ 62) where
  abbrev words : Bool → Bool → List Word
  words fin len = stream_words id start fin len ++ (raw d ∷ [])

  zero_start : start ≡ 0 → number start ≡ number 0
  zero_start e = ap number e

  by_bits : (z fin len : Bool) → (z ≡ true → start ≡ 0) → (len ≡ false → q ≡ [])
      → ReadAs table (type_by z fin len) 0x08 (words fin len) p (frame_bytes table (type_by z fin len) (words fin len)) q
  unfolding table stream_words row_bytes
  by_bits true true true e h =
      read_as table 0x0b _ (words true true) p q refl (omega arith)
      (id-small, (zero_start (e refl), (refl, (refl, (data-small, tt)))))
  by_bits true true false e h =
      read_as table 0x09 _ (words true false) p q refl (omega arith)
      (id-small, (zero_start (e refl), (refl, (refl, (h refl, tt)))))
  by_bits true false true e h =
      read_as table 0x0a _ (words false true) p q refl (omega arith)
      (id-small, (zero_start (e refl), (refl, (refl, (data-small, tt)))))
  by_bits true false false e h =
      read_as table 0x08 _ (words false false) p q refl (omega arith)
      (id-small, (zero_start (e refl), (refl, (refl, (h refl, tt)))))
  by_bits false true true e h =
      read_as table 0x0f _ (words true true) p q refl (omega arith)
      (id-small, (start_small, (refl, (refl, (data-small, tt)))))
  by_bits false true false e h =
      read_as table 0x0d _ (words true false) p q refl (omega arith)
      (id-small, (start_small, (refl, (refl, (h refl, tt)))))
  by_bits false false true e h =
      read_as table 0x0e _ (words false true) p q refl (omega arith)
      (id-small, (start_small, (refl, (refl, (data-small, tt)))))
  by_bits false false false e h =
      read_as table 0x0c _ (words false false) p q refl (omega arith)
      (id-small, (start_small, (refl, (refl, (h refl, tt)))))

  -- the head and the data are the whole frame
  whole : (z fin len : Bool)
      → (frame_bytes table (type_by z fin len) (stream_words id start fin len) ++ (if len then var_bytes (length d) else [])) ++ d
      ≡ frame_bytes table (type_by z fin len) (words fin len)
  unfolding table stream_words frame_bytes row_bytes field_bytes
  whole true true true = simp (append_assoc, append-nil)
  whole true true false = simp (append_assoc, append-nil)
  whole true false true = simp (append_assoc, append-nil)
  whole true false false = simp (append_assoc, append-nil)
  whole false true true = simp (append_assoc, append-nil)
  whole false true false = simp (append_assoc, append-nil)
  whole false false true = simp (append_assoc, append-nil)
  whole false false false = simp (append_assoc, append-nil)

pub stream_read : (p bs d q : List ℕ) (id start end : ℕ) (fin len : Bool) → meta_out id start end fin len ≡ ok bs
    → length d ≡ end - start → (len ≡ false → q ≡ [])
    → ReadAs table (stream_type start fin len) 0x08 (stream_words id start fin len ++ (raw d ∷ [])) p (bs ++ d) q
unfolding stream_type meta_bytes
stream_read p bs d q id start end fin len e n h =
    let s = meta_seen id start end fin len bs e in
    let w = whole p d q id start s.1 (omega (arith, s)) (omega (arith, s)) (eqb start 0) fin len in
    let r = by_bits p d q id start s.1 (omega (arith, s)) (omega (arith, s)) (eqb start 0) fin len (eqb-true start 0) h in
    rw (← s.3, ← n, w) r
