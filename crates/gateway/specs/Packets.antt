-- Packets over the surface: split, the sample's place, unmask and mask.
use Rattle.std.specs.Prelude.{ℕ, ◌+◌, ◌-◌, ◌≡◌, List, Bool, false, length, ltb, leb, eqb, if◌then◌else◌}
use Rattle.std.proofs.Math.Option.{Option, none, some}
use Rattle.coding.specs.Words.{Answer, no, ok}
use Rattle.coding.specs.declared.Place.{Place}
use Rattle.packet.specs.Header.{Header, initial, zero_rtt, handshake, retry, short, negotiate, Outcome}
use Rattle.packet.specs.Split.{nowhere}
use Rattle.packet.specs.Walk.{Met, at_end, packet, refused_at, PacketStep, packet_step_at}
use Rattle.protect.specs.Steps.{left_by, read_off, sample_at, Opened, finish_at, finished, only_done, mask_at}
use Rattle.protect.specs.Steps as opened
use Rattle.frame.specs.Table.{flag}
use Rattle.gateway_frame.specs.Spans.{span_at, span_of}
use Rattle.gateway_frame.specs.declared.records.Span.{Span}
use Rattle.gateway.specs.Arguments.{long_kind, numbered_kind, number_given}
use Rattle.gateway.specs.declared.records.SplitAnswer.{SplitAnswer}
use Rattle.gateway.specs.declared.records.SampleAnswer.{SampleAnswer}
use Rattle.gateway.specs.declared.records.UnmaskAnswer.{UnmaskAnswer}
use Rattle.gateway.specs.declared.packets.HeaderNumbers.{HeaderNumbers}

-- ---- split

-- what a header alone has: its kind, spin bit, Version Negotiation's bits, Length and token; a refusal is of no kind, 6
abbrev pub header_has : ℕ → ℕ → ℕ → ℕ → Place → HeaderNumbers
header_has kind spin random len token = record { refusal = 0; kind = kind; spin = spin; random = random; length = len; token = span_of token }

abbrev pub header_refused : ℕ → HeaderNumbers
header_refused k = record { refusal = k; kind = 6; spin = 0; random = 0; length = 0; token = span_at 0 0 }

abbrev pub said_numbers : Answer Header → HeaderNumbers
said_numbers (ok (initial token len)) = header_has 0 0 0 len token
said_numbers (ok (zero_rtt len)) = header_has 1 0 0 len nowhere
said_numbers (ok (handshake len)) = header_has 2 0 0 len nowhere
said_numbers (ok retry) = header_has 3 0 0 0 nowhere
said_numbers (ok (short spin)) = header_has 4 (flag spin) 0 0 nowhere
said_numbers (ok (negotiate random)) = header_has 5 0 random 0 nowhere
said_numbers (no k) = header_refused k

-- where the connection ids stand: in a short header past the first byte; in a long one past the version, each behind a byte
-- with its length. Of the refusals only 4 has them
abbrev pub dst_at : ℕ → ℕ → ℕ → Span
dst_at refusal kind len =
    if eqb kind 4 then span_at 1 len else
    if eqb refusal 0 then span_at 6 len else
    if eqb refusal 4 then span_at 6 len else
    span_at 0 0

abbrev pub src_at : ℕ → ℕ → ℕ → ℕ → Span
src_at refusal kind dst len =
    if eqb kind 4 then span_at 0 0 else
    if eqb refusal 0 then span_at (7 + dst) len else
    if eqb refusal 4 then span_at (7 + dst) len else
    span_at 0 0

-- a packet of len bytes at a place, or a refusal there; what the header says is counted from the packet's first byte
abbrev pub record_by : HeaderNumbers → ℕ → ℕ → Outcome → SplitAnswer
record_by n start len h =
    record {
      refusal = n.refusal;
      kind = n.kind;
      spin = n.spin;
      random = n.random;
      version = h.version;
      packet = span_at start len;
      number_offset = h.end;
      length = n.length;
      token = n.token;
      dst_cid = dst_at n.refusal n.kind h.dst.len;
      src_cid = src_at n.refusal n.kind h.dst.len h.src.len;
    }

abbrev pub split_record : ℕ → ℕ → Outcome → SplitAnswer
split_record start len h = record_by (said_numbers h.said) start len h

-- no packet: kind 6. At the end of the datagram the refusal is 0
abbrev pub no_packet_record : ℕ → ℕ → SplitAnswer
no_packet_record k start =
    record {
      refusal = k;
      kind = 6;
      spin = 0;
      random = 0;
      version = 0;
      packet = span_at start 0;
      number_offset = 0;
      length = 0;
      token = span_at 0 0;
      dst_cid = span_at 0 0;
      src_cid = span_at 0 0;
    }

abbrev pub met_record : ℕ → Met → Outcome → SplitAnswer
met_record at at_end h = no_packet_record 0 at
met_record at (packet start len) h = split_record start len h
met_record at (refused_at start) h = split_record start 0 h

abbrev pub step_record : ℕ → PacketStep → SplitAnswer
step_record at x = met_record at x.met x.header

-- one step of the walk
abbrev pub split_for : List ℕ → ℕ → ℕ → List ℕ → ℕ → SplitAnswer
split_for s at local versions grease =
    if ltb 1 grease then no_packet_record 14 at else step_record at (packet_step_at s at local versions (eqb grease 1))

-- ---- the sample's place; one of no bytes where there is none

abbrev pub no_sample : ℕ → SampleAnswer
no_sample k = record { refusal = k; sample = span_at 0 0 }

abbrev pub sample_record : Answer (Option Place) → SampleAnswer
sample_record (no k) = no_sample k
sample_record (ok none) = no_sample 0
sample_record (ok (some p)) = record { refusal = 0; sample = span_of p }

abbrev pub sample_for : ℕ → List ℕ → ℕ → SampleAnswer
sample_for kind s at = if ltb 5 kind then no_sample 14 else sample_record (sample_at (numbered_kind kind) s at)

-- ---- unmask: finish, of a mask of five bytes

-- in a packet of len bytes: the header, up to and with a number of k bytes, and what follows
abbrev pub header_span : ℕ → ℕ → ℕ → Span
header_span len at k = if leb (at + k) len then span_at 0 (at + k) else span_at 0 0

abbrev pub payload_span : ℕ → ℕ → ℕ → Span
payload_span len at k = if leb (at + k) len then span_at (at + k) (len - (at + k)) else span_at 0 0

-- no number, with refusal 0, or a refusal
abbrev pub not_opened : ℕ → UnmaskAnswer
not_opened k =
    record {
      refusal = k;
      reserved_clear = 0;
      key_phase = 0;
      number_value = 0;
      number_len = 0;
      header = span_at 0 0;
      payload = span_at 0 0;
    }

abbrev pub opened_with : ℕ → ℕ → Bool → Bool → ℕ → ℕ → UnmaskAnswer
opened_with k v clear phase at len =
    record {
      refusal = 0;
      reserved_clear = flag clear;
      key_phase = flag phase;
      number_value = v;
      number_len = k;
      header = header_span len at k;
      payload = payload_span len at k;
    }

abbrev pub unmask_record : ℕ → ℕ → Answer Opened → UnmaskAnswer
unmask_record at len (no k) = not_opened k
unmask_record at len (ok opened.unnumbered) = not_opened 0
unmask_record at len (ok (opened.long k v clear)) = opened_with k v clear false at len
unmask_record at len (ok (opened.short k v clear phase)) = opened_with k v clear phase at len

-- 14 before all else: the kind, and the mask's length
unfoldable pub in_mask : List ℕ → Answer (List ℕ) → Answer (List ℕ)
in_mask mask answer = if eqb (length mask) 5 then answer else no 14

unfoldable pub unmask_at : ℕ → List ℕ → ℕ → List ℕ → Answer (List ℕ)
unmask_at kind s at mask = if ltb 5 kind then no 14 else in_mask mask (finish_at (numbered_kind kind) (long_kind kind) s at mask)

-- unmask of the packet `old` answers r and leaves `new`
pub record UnmasksPacket (kind : ℕ) (old : List ℕ) (at : ℕ) (mask : List ℕ) (r : UnmaskAnswer) (new : List ℕ) : Type 0 where
  pub says : r ≡ unmask_record at (length old) (read_off (finished (numbered_kind kind) (long_kind kind) at) (unmask_at kind old at mask))
  pub leaves : new ≡ left_by (unmask_at kind old at mask) old

-- ---- mask: the mask step, of a mask of five bytes; its answer is the refusal, 0 where it is done

abbrev pub mask_record : Answer (Unit {0}) → ℕ
mask_record (no k) = k
mask_record (ok _) = 0

unfoldable pub mask_for : ℕ → ℕ → ℕ → List ℕ → List ℕ → Answer (List ℕ)
mask_for header_len numberLen has_length s mask =
    if ltb 1 has_length then no 14 else in_mask mask (mask_at header_len (number_given numberLen) (eqb has_length 1) s mask)

-- mask of the packet `old` answers r and leaves `new`
pub record MasksPacket (header_len numberLen has_length : ℕ) (old mask : List ℕ) (r : ℕ) (new : List ℕ) : Type 0 where
  pub says : r ≡ mask_record (read_off only_done (mask_for header_len numberLen has_length old mask))
  pub leaves : new ≡ left_by (mask_for header_len numberLen has_length old mask) old
