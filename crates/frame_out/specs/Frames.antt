-- What each encoder writes, by the table of frames: document 01, "Encoders"; RFC 9000, section 19; RFC 9221; the ACK frequency
-- draft. An integer past 2^62 - 1 and a frame past 65,527 bytes are 14 (`frame_out`).
use Rattle.std.specs.Prelude.{ℕ, ◌+◌, ◌-◌, List, [], ◌∷◌, ◌++◌, Bool, true, ltb, eqb, if◌then◌else◌}
use Rattle.coding.specs.Words.{Answer, no}
use Rattle.coding.specs.Varint.{var_bytes}
use Rattle.shared.specs.Cid.{max_cid, cid_bytes}
use Rattle.shared.specs.declared.cid.ConnectionId.{ConnectionId}
use Rattle.frame.specs.Table.{flag, ecn_fields, table}
use Rattle.row_out.specs.Writing.{Word, number, raw, row_bytes, frame_bytes}
use Rattle.row_out.specs.Limits.{limited, frame_out}

-- the ECN counts by themselves: the last fields of an ACK
unfoldable pub ecn_out : ℕ → ℕ → ℕ → Answer (List ℕ)
ecn_out ect0 ect1 ce = limited (ect0 ∷ ect1 ∷ ce ∷ []) (row_bytes (ecn_fields true) (number ect0 ∷ number ect1 ∷ number ce ∷ []))

-- ---- a stream frame up to its data

-- 19.8: 4 says that an offset stands, 2 that a length does, 1 that the stream ends
unfoldable pub stream_type : ℕ → Bool → Bool → ℕ
stream_type start fin len = 0x08 + (if eqb start 0 then 0 else 4) + (if len then 2 else 0) + (if fin then 1 else 0)

-- the words of its row but the last, the data
unfoldable pub stream_words : ℕ → ℕ → Bool → Bool → List Word
stream_words id start fin len = number id ∷ number start ∷ number (flag fin) ∷ number (flag len) ∷ []

-- and the data's length, where it stands
unfoldable pub meta_bytes : ℕ → ℕ → ℕ → Bool → Bool → List ℕ
meta_bytes id start end fin len =
    frame_bytes table (stream_type start fin len) (stream_words id start fin len) ++ (if len then var_bytes (end - start) else [])

-- the data is what lies from start to end: an end below the start is 14
unfoldable pub meta_out : ℕ → ℕ → ℕ → Bool → Bool → Answer (List ℕ)
meta_out id start end fin len = if ltb end start then no 14 else limited (id ∷ end ∷ []) (meta_bytes id start end fin len)

-- ---- whole frames

unfoldable pub crypto_out : ℕ → List ℕ → Answer (List ℕ)
crypto_out offset bs = frame_out table 0x06 (number offset ∷ raw bs ∷ [])

unfoldable pub new_token_out : List ℕ → Answer (List ℕ)
new_token_out token = frame_out table 0x07 (raw token ∷ [])

unfoldable pub reset_stream_out : ℕ → ℕ → ℕ → Answer (List ℕ)
reset_stream_out id code size = frame_out table 0x04 (number id ∷ number code ∷ number size ∷ [])

unfoldable pub stop_sending_out : ℕ → ℕ → Answer (List ℕ)
stop_sending_out id code = frame_out table 0x05 (number id ∷ number code ∷ [])

-- retire_prior_to above sequence, an empty connection id and one longer than 20 bytes are 14
unfoldable pub new_cid_out : ℕ → ℕ → ConnectionId → List ℕ → Answer (List ℕ)
new_cid_out sequence retire id token =
    if ltb sequence retire then no 14 else
    if eqb id.len 0 then no 14 else
    if ltb max_cid id.len then no 14 else
    frame_out table 0x18 (number sequence ∷ number retire ∷ raw (cid_bytes id) ∷ raw token ∷ [])

-- RFC 9221: 31 with a length, 30 without
unfoldable pub datagram_out : Bool → List ℕ → Answer (List ℕ)
datagram_out len bs = frame_out table (0x30 + flag len) (number (flag len) ∷ raw bs ∷ [])

unfoldable pub ack_frequency_out : ℕ → ℕ → ℕ → ℕ → Answer (List ℕ)
ack_frequency_out sequence threshold delay reordering =
    frame_out table 0xaf (number sequence ∷ number threshold ∷ number delay ∷ number reordering ∷ [])
