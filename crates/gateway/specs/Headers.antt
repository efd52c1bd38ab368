-- A header over the surface, written with its Length.
use Rattle.std.specs.Prelude.{ℕ, ◌≡◌, List, Bool, ◌||◌, length, ltb, eqb, if◌then◌else◌}
use Rattle.coding.specs.Words.{Answer, no, ok, max_datagram}
use Rattle.coding.specs.Writing.{in_room, length_of, into_buffer}
use Rattle.shared.specs.Cid.{max_cid, cid_of}
use Rattle.number.specs.Cutting.{cut}
use Rattle.protect.specs.Tests.{number_bytes}
use Rattle.packet_out.specs.Encoding.{Plain, initial, zero_rtt, handshake, retry, short, negotiate, Partial, partial_of}
use Rattle.packet_out.specs.Before.{header_with}
use Rattle.frame.specs.Table.{flag}
use Rattle.gateway.specs.declared.records.HeaderGiven.{HeaderGiven}
use Rattle.gateway.specs.declared.records.HeaderAnswer.{HeaderAnswer}

-- an argument is outside its rule, whatever the kind makes of it: the kind, the flags, the lengths of connection ids, token and
-- payload
unfoldable pub given_outside : HeaderGiven → ℕ → ℕ → ℕ → ℕ → Bool
given_outside h dst src token n =
    ltb 5 h.kind || ltb 1 h.spin || ltb 1 h.key_phase || ltb max_cid dst || ltb max_cid src || ltb max_datagram token || ltb max_datagram n

-- of these, the kind and the flags
abbrev pub kind_outside : HeaderGiven → Bool
kind_outside h = ltb 5 h.kind || ltb 1 h.spin || ltb 1 h.key_phase

-- and the lengths
abbrev pub lengths_outside : ℕ → ℕ → ℕ → ℕ → Bool
lengths_outside dst src token n = ltb max_cid dst || ltb max_cid src || ltb max_datagram token || ltb max_datagram n

-- the header by its kind; what a kind does not have is not looked at
abbrev pub plain_for : HeaderGiven → Plain
plain_for h =
    let c = cut h.number_len h.number_value in
    if eqb h.kind 0 then initial c h.version else
    if eqb h.kind 1 then zero_rtt c h.version else
    if eqb h.kind 2 then handshake c h.version else
    if eqb h.kind 3 then retry h.version else
    if eqb h.kind 4 then short (eqb h.spin 1) (eqb h.key_phase 1) c else
    negotiate h.random

abbrev pub no_header : ℕ → HeaderAnswer
no_header k = record { refusal = k; has_length = 0; header_len = 0; number_len = 0 }

-- what a header was written with, as a record
abbrev pub written_record : Answer Partial → HeaderAnswer
written_record (no k) = no_header k
written_record (ok x) =
    record { refusal = 0; has_length = flag x.has_length; header_len = x.header_len; number_len = number_bytes x.number }

-- writing w for the header p into the buffer `old` answers r and leaves `new`: 15 where the header does not fit
pub record PutsHeader (p : Plain) (w : Answer (List ℕ)) (old : List ℕ) (r : HeaderAnswer) (new : List ℕ) : Type 0 where
  pub says : r ≡ written_record (partial_of p (length_of (in_room (length old) w)))
  pub leaves : new ≡ into_buffer (in_room (length old) w) old

-- the header, with its Length; 14 where an argument is outside its rule, or something does not fit
unfoldable pub header_for : HeaderGiven → List ℕ → List ℕ → List ℕ → ℕ → Answer (List ℕ)
header_for h dst src token n =
    if given_outside h (length dst) (length src) (length token) n then no 14 else header_with (plain_for h) (cid_of dst) (cid_of src) token n

abbrev pub WritesHeader : HeaderGiven → List ℕ → List ℕ → List ℕ → ℕ → List ℕ → HeaderAnswer → List ℕ → Type 0
WritesHeader h dst src token n = PutsHeader (plain_for h) (header_for h dst src token n)
