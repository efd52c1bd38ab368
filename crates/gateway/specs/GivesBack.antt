-- What the records give back: what `packet`, `spaces` and the caller of header_write said. The maps here undo those of Packets and
-- Numbers; the laws are proved in proofs/SplitBack, UnmaskBack, WrittenBack and NumbersBack.
use Rattle.std.specs.Prelude.{ℕ, ◌+◌, ◌%◌, ◌^◌, ◌≤◌, ◌<◌, ◌≡◌, List, ◌++◌, Bool, true, false, not, length, take, drop, eqb, if◌then◌else◌}
use Rattle.std.proofs.Math.Option.{Option, none, some, Option-elim}
use Rattle.coding.specs.Words.{Answer, no, ok}
use Rattle.coding.specs.Places.{part_of}
use Rattle.coding.specs.declared.Place.{Place}
use Rattle.shared.specs.Cid.{cid_of, max_cid}
use Rattle.number.specs.Cutting.{cut}
use Rattle.number.specs.Ends.{Packet}
use Rattle.packet.specs.Header.{max_versions, Header, initial, zero_rtt, handshake, retry, short, negotiate, Outcome, kind_of, is_long, space_in}
use Rattle.packet.specs.Said.{space_of}
use Rattle.packet.specs.declared.header.SpaceId.{SpaceId}
use Rattle.packet.specs.Walk.{Met, at_end, packet, refused_at, PacketStep, packet_step_at}
use Rattle.protect.specs.Steps.{read_off, sample_at, Opened, finish_at, finished, header_place, payload_place}
use Rattle.protect.specs.Steps as opened
use Rattle.spaces.specs.Each.{of, space_for}
use Rattle.spaces.specs.Calls.{Spaces, Told, send_in, acknowledge_in, read_in, accept_in}
use Rattle.spaces.specs.Said.{id_in}
use Rattle.packet_out.specs.Back.{Readable}
use Rattle.frame.specs.Table.{flag}
use Rattle.gateway_frame.specs.Spans.{span_at, place_back}
use Rattle.gateway_frame.specs.declared.records.Span.{Span}
use Rattle.gateway.specs.Arguments.{long_kind, numbered_kind, kind_at}
use Rattle.gateway.specs.Packets.{split_for, sample_for, UnmasksPacket}
use Rattle.gateway.specs.Numbers.{ends_in, unkept, Numbers, numbers, each_in, number_for}
use Rattle.gateway.specs.Headers.{plain_for, WritesHeader}
use Rattle.gateway.specs.declared.records.SplitAnswer.{SplitAnswer}
use Rattle.gateway.specs.declared.records.SampleAnswer.{SampleAnswer}
use Rattle.gateway.specs.declared.records.UnmaskAnswer.{UnmaskAnswer}
use Rattle.gateway.specs.declared.records.NumberEnds.{NumberEnds}
use Rattle.gateway.specs.declared.records.NumberSpaces.{NumberSpaces}
use Rattle.gateway.specs.declared.records.NumberAnswer.{NumberAnswer}
use Rattle.gateway.specs.declared.records.HeaderGiven.{HeaderGiven}
use Rattle.gateway.specs.declared.records.HeaderAnswer.{HeaderAnswer}

-- the bytes that a place of a record names
abbrev pub named : List ℕ → Span → List ℕ
named s p = part_of s (place_back p)

-- ---- split: a step of the walk, by its record

abbrev pub header_back : SplitAnswer → Answer Header
header_back r =
    if not (eqb r.refusal 0) then no r.refusal else
    if eqb r.kind 0 then ok (initial (place_back r.token) r.length) else
    if eqb r.kind 1 then ok (zero_rtt r.length) else
    if eqb r.kind 2 then ok (handshake r.length) else
    if eqb r.kind 3 then ok retry else
    if eqb r.kind 4 then ok (short (eqb r.spin 1)) else
    if eqb r.kind 5 then ok (negotiate r.random) else
    no 1

-- the connection ids are the bytes that the record names; s is the datagram from the packet's first byte on
abbrev pub outcome_back : List ℕ → SplitAnswer → Outcome
outcome_back s r =
    record {
      said = header_back r;
      dst = cid_of (named s r.dst_cid);
      src = cid_of (named s r.src_cid);
      version = r.version;
      end = r.number_offset;
    }

abbrev pub met_back : SplitAnswer → Met
met_back r =
    if not (eqb r.kind 6) then packet r.packet.start r.packet.len else
    if eqb r.refusal 0 then at_end else
    refused_at r.packet.start

abbrev pub walk_step_back : List ℕ → SplitAnswer → PacketStep
walk_step_back s r = record { met = met_back r; header = outcome_back (drop r.packet.start s) r }

-- for every datagram and all arguments: what the step met, and the whole of what decode read, a refusal too
abbrev pub SplitGivesBack : Type 0
SplitGivesBack =
    (s : List ℕ) (at local : ℕ) (versions : List ℕ) (grease : Bool)
    → walk_step_back s (split_for s at local versions (flag grease)) ≡ packet_step_at s at local versions grease

-- a packet lies in its datagram, and what its record names lies in the packet, before its number
pub record Holds (s : List ℕ) (r : SplitAnswer) : Type 0 where
  pub packet : r.packet.start + r.packet.len ≤ length s
  pub to : r.dst_cid.start + r.dst_cid.len ≤ r.number_offset
  pub from : r.src_cid.start + r.src_cid.len ≤ r.number_offset
  pub token : r.token.start + r.token.len ≤ r.number_offset
  pub number : r.number_offset ≤ r.packet.len

abbrev pub SplitHolds : Type 0
SplitHolds =
    (s : List ℕ) (at local : ℕ) (versions : List ℕ) (grease : Bool)
    → (split_for s at local versions (flag grease)).kind < 6 → Holds s (split_for s at local versions (flag grease))

-- ---- sample_place and unmask

abbrev pub sample_back : SampleAnswer → Answer (Option Place)
sample_back r =
    if not (eqb r.refusal 0) then no r.refusal else
    if eqb r.sample.len 0 then ok none else
    ok (some (place_back r.sample))

abbrev pub SampleGivesBack : Type 0
SampleGivesBack = (kind : ℕ) (s : List ℕ) (at : ℕ) → kind ≤ 5 → sample_back (sample_for kind s at) ≡ sample_at (numbered_kind kind) s at

abbrev pub opened_back : Bool → Bool → UnmaskAnswer → Answer Opened
opened_back numbered is_long r =
    if not (eqb r.refusal 0) then no r.refusal else
    if not numbered then ok opened.unnumbered else
    if is_long then ok (opened.long r.number_len r.number_value (eqb r.reserved_clear 1)) else
    ok (opened.short r.number_len r.number_value (eqb r.reserved_clear 1) (eqb r.key_phase 1))

-- unmask of the packet s answers r: what finish says; and, where there is a number, the header and the payload are finish's parts
pub record OpensAs (numbered is_long : Bool) (s : List ℕ) (at : ℕ) (mask : List ℕ) (r : UnmaskAnswer) : Type 0 where
  pub says : opened_back numbered is_long r ≡ read_off (finished numbered is_long at) (finish_at numbered is_long s at mask)
  pub header : numbered ≡ true → r.refusal ≡ 0 → place_back r.header ≡ header_place at (some r.number_len)
  pub payload : numbered ≡ true → r.refusal ≡ 0 → place_back r.payload ≡ payload_place at (some r.number_len) (length s)

abbrev pub UnmaskGivesBack : Type 0
UnmaskGivesBack =
    (kind : ℕ) (s : List ℕ) (at : ℕ) (mask : List ℕ) (r : UnmaskAnswer) (new : List ℕ) → kind ≤ 5 → length mask ≡ 5
    → UnmasksPacket kind s at mask r new → OpensAs (numbered_kind kind) (long_kind kind) s at mask r

-- the kinds by number are those that decode reads: which are long, which have a number, and in which number space
abbrev pub KindsAgree : Type 0
KindsAgree =
    (h : Header) → (long_kind (kind_of h) ≡ is_long (ok h)) × (numbered_kind (kind_of h) ≡ Option-elim (space_in (ok h)) false (λ n. true))
    × (space_of (id_in (space_for (kind_at (kind_of h)))) ≡ space_in (ok h))

-- ---- header_write, then split

-- header_write was given h, dst, src and token, for a payload of n bytes, and answered w; of the datagram s split answers r
pub record ReadBack (h : HeaderGiven) (dst src token : List ℕ) (n : ℕ) (w : HeaderAnswer) (s : List ℕ) (r : SplitAnswer) : Type 0 where
  pub refusal : r.refusal ≡ 0
  pub kind : r.kind ≡ h.kind
  pub packet : r.packet ≡ span_at 0 (w.header_len + n)
  pub number : r.number_offset + w.number_len ≡ w.header_len
  pub to : named s r.dst_cid ≡ dst
  pub from : (h.kind ≡ 4 → ⊥) → named s r.src_cid ≡ src
  pub version : h.kind < 4 → r.version ≡ h.version
  pub names : h.kind ≡ 0 → named s r.token ≡ token
  pub counts : h.kind < 3 → r.length ≡ h.number_len + n
  pub agrees : numbered_kind h.kind ≡ true → w.number_len ≡ h.number_len
  pub spin : h.kind ≡ 4 → r.spin ≡ h.spin
  pub random : h.kind ≡ 5 → r.random ≡ h.random % 0x80

-- a header that was written, and any payload of n bytes behind it, is read back where it can be read (packet_out/specs/Back
-- `Readable`: the version is listed, a short header's connection id is of the local length, ..)
abbrev pub WrittenIsRead : Type 0
WrittenIsRead =
    (h : HeaderGiven) (dst src token payload old : List ℕ) (w : HeaderAnswer) (new : List ℕ) (local : ℕ) (versions : List ℕ) (grease : Bool)
    → WritesHeader h dst src token (length payload) old w new → w.refusal ≡ 0 → h.version < 2 ^ 32
    → Readable (plain_for h) (cid_of dst) local versions grease → local ≤ max_cid → length versions ≤ max_versions
    → ReadBack h dst src token (length payload) w (take w.header_len new ++ payload)
    (split_for (take w.header_len new ++ payload) 0 local versions (flag grease))

-- ---- number_step: the call on the record of three itself

abbrev pub spaces_in : NumberSpaces → Spaces
spaces_in x = record { initial = ends_in x.initial; handshake = ends_in x.handshake; «data» = ends_in x.«data» }

-- what the call says, and the record that it leaves
abbrev pub answer_back : {A : Type 0} → (NumberAnswer → A) → NumberAnswer → Answer A
answer_back f r = if eqb r.refusal 0 then ok (f r) else no r.refusal

abbrev pub call_back : {A : Type 0} → (NumberAnswer → A) → NumberAnswer → Told Spaces A
call_back f r = record { says = answer_back f r; leaves = spaces_in r.spaces }

abbrev pub packet_back : NumberAnswer → Packet
packet_back r = record { number = r.number; carries = cut r.number_len r.number_value }

pub record StepsAs (kind : ℕ) (x : NumberSpaces) (n len value : ℕ) : Type 0 where
  pub sends : call_back packet_back (number_for 0 kind x n len value) ≡ send_in (spaces_in x) (kind_at kind)
  pub acknowledges : call_back (λ r. tt) (number_for 1 kind x n len value) ≡ acknowledge_in (spaces_in x) (kind_at kind) n
  pub reads : call_back (λ r. r.number) (number_for 2 kind x n len value) ≡ read_in (spaces_in x) (kind_at kind) (cut len value)
  pub accepts : call_back (λ r. tt) (number_for 3 kind x n len value) ≡ accept_in (spaces_in x) (kind_at kind) n

-- where the flags of the kind's space are 0 or 1
abbrev pub StepIsCall : Type 0
StepIsCall =
    (kind : ℕ) (x : NumberSpaces) (n len value : ℕ) → ((s : SpaceId) → space_for (kind_at kind) ≡ some s → unkept (of (each_in x) s) ≡ false)
    → StepsAs kind x n len value

-- any step: its number, and the arguments behind it
pub record Step : Type 0 where
  pub step : ℕ
  pub kind : ℕ
  pub number : ℕ
  pub len : ℕ
  pub value : ℕ

abbrev pub step_on : Step → NumberSpaces → NumberAnswer
step_on p x = number_for p.step p.kind x p.number p.len p.value

-- the space that it names, if it names one
abbrev pub names : Step → Option SpaceId
names p = space_for (kind_at p.kind)

-- what an answer says: the refusal, and the numbers
abbrev pub said_in : NumberAnswer → ℕ × Numbers
said_in r = (r.refusal, numbers r.number r.number_len r.number_value)

-- the ends of a space in an answer
abbrev pub ends_at : SpaceId → NumberAnswer → NumberEnds
ends_at s r = of (each_in r.spaces) s

-- a refused step hands back the very record
abbrev pub RefusedIsSame : Type 0
RefusedIsSame = (p : Step) (x : NumberSpaces) → ((step_on p x).refusal ≡ 0 → ⊥) → (step_on p x).spaces ≡ x

-- and so does a reading, refused or not
abbrev pub ReadIsSame : Type 0
ReadIsSame = (p : Step) (x : NumberSpaces) → p.step ≡ 2 → (step_on p x).spaces ≡ x

-- a space that is not named comes back as it came, field by field
abbrev pub OthersAsCame : Type 0
OthersAsCame = (p : Step) (x : NumberSpaces) (t : SpaceId) → (names p ≡ some t → ⊥) → ends_at t (step_on p x) ≡ of (each_in x) t

-- and is not looked at: of two records with the named space in common a step says the same, and leaves the same there
abbrev pub OthersUnread : Type 0
OthersUnread =
    (p : Step) (x y : NumberSpaces) (s : SpaceId) → names p ≡ some s → of (each_in x) s ≡ of (each_in y) s
    → (said_in (step_on p x) ≡ said_in (step_on p y)) × (ends_at s (step_on p x) ≡ ends_at s (step_on p y))

-- two steps that name no space in common, in either order: the same two answers, and the same record in the end
abbrev pub EitherOrder : Type 0
EitherOrder =
    (p q : Step) (x : NumberSpaces) → ((s : SpaceId) → names p ≡ some s → names q ≡ some s → ⊥) →
    let a = step_on p x in
    let b = step_on q a.spaces in
    let b' = step_on q x in
    let a' = step_on p b'.spaces in
    (said_in a ≡ said_in a') × (said_in b ≡ said_in b') × (b.spaces ≡ a'.spaces)
