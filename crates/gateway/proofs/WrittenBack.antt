-- What header_write stores, split reads back, whatever the payload behind it.
use Rattle.std.specs.Prelude.{if◌then◌else◌}
use Prim.Native.Nat.{ℕ, zero, suc, ◌+◌, ◌%◌, ◌^◌, ◌≤◌, ◌<◌}
use mathlib.Core.Path.{◌≡◌, refl, sym, ap, ◌∙◌}
use mathlib.Core.List.{List, ◌++◌}
use mathlib.Core.Bool.{Bool, true, false}
use native.Mathlib.Omega.{arith}
use lib.ListN.{length, take, length-append, length-replicate}
use lib.Seq.{take_at}
use lib.Dec.{leb, eqb}
use borrow.Author.Tests.{ltb-false, le-ltb, lt-leb, ne_eqb}
use Rattle.std.proofs.lemmas.Bool.{or_parts}
use Rattle.coding.specs.Words.{no, ok}
use Rattle.coding.specs.Bytes.{splice}
use Rattle.coding.specs.Places.{part_of}
use Rattle.coding.specs.Writing.{in_room, length_of, into_buffer}
use Rattle.coding.proofs.Laws.{length_bytes_be}
use Rattle.coding.proofs.Rules.{if_all}
use Rattle.shared.specs.Cid.{cid_of, cid_bytes}
use Rattle.shared.specs.declared.cid.ConnectionId.{ConnectionId}
use Rattle.shared.proofs.Back.{cid_same}
use Rattle.shared.specs.declared.kinds.CutNumber.{CutNumber}
use Rattle.packet.specs.Header.{Outcome, outside, headed, header_at}
use Rattle.packet.specs.Split.{cut_at}
use Rattle.packet.specs.Walk.{packet, PacketStep, met_on, step_on, packet_step_at}
use Rattle.packet.specs.TypeBits.{type_of, bits_of}
use Rattle.packet.proofs.Types.{tables}
use Rattle.packet_out.specs.Encoding.{Plain, initial, zero_rtt, handshake, retry, short, negotiate, plain_number, shape_by, length_bytes, number_field, written_header, placeholder, partial_of}
use Rattle.packet_out.specs.Length.{length_field}
use Rattle.packet_out.specs.Back.{kind_read, version_read, src_read, token_place, end_read, read_as, Readable, Typed}
use Rattle.packet_out.specs.Before.{number_size, fits, header_with}
use Rattle.packet_out.proofs.Laws.{kept, length_shape, length_some, length_small}
use Rattle.packet_out.proofs.HeaderBack.{header_back_law}
use Rattle.packet_out.proofs.EncodedBack.{reads_length, first_steers, header_then, token_back}
use Rattle.packet_out.proofs.LengthAndMask.{length_field_law, length_header}
use Rattle.packet_out.proofs.WholeWay.{split_whole}
use Rattle.gateway.specs.Headers.{plain_for, PutsHeader}
use Rattle.gateway.specs.Headers as headers
use Rattle.gateway.specs.declared.records.HeaderAnswer.{HeaderAnswer}
use Rattle.gateway_frame.specs.Spans.{span_at}
use Rattle.gateway.specs.Packets.{split_record, split_for}
use Rattle.gateway.specs.GivesBack.{named, walk_step_back, ReadBack, WrittenIsRead}
use Rattle.gateway.specs.Arguments.{numbered_kind}
use Rattle.gateway.specs.declared.records.HeaderGiven.{HeaderGiven}
use Rattle.gateway.specs.declared.records.SplitAnswer.{SplitAnswer}
use Rattle.frame.specs.Table.{flag}
use Rattle.gateway.proofs.Taken.{flag_back, flag_small}
use Rattle.gateway.proofs.SplitBack.{split_back}
use Rattle.gateway.proofs.Whole.{Fit, fit}
use Rattle.gateway.proofs.HeaderWrites.{for_no, for_ok}

-- ---- a header that fits before its payload

length_set : (b : Bool) (n : ℕ) → length (length_bytes b (length_field n)) ≡ (if b then 2 else 0)
unfolding length_bytes
length_set true n = length_field_law n
length_set false n = refl

module _ (p : Plain) (dst src : ConnectionId) (token payload : List ℕ) (local : ℕ) (versions : List ℕ) (grease : Bool)
    (f : Fit p dst src token (length payload)) (few : length token ≤ 65527) (y : Typed p dst src) (d : Readable p dst local versions grease) (a : local ≤ 20) (b : length versions ≤ 16) where
  -- what its Length counts
  abbrev pub counted : ℕ
  counted = number_size p + length payload

  abbrev pub header : List ℕ
  header = written_header bits_of (length_field counted) p dst src token

  pub read : Outcome
  read = read_as bits_of p dst src token counted 2

  header_long : length header ≡ end_read bits_of p dst src token 2 + number_size p
  unfolding end_read written_header
  header_long =
      omega (arith, length_shape (length_field counted) (shape_by bits_of p) (plain_number p) dst src token, length_some (plain_number p), length_set (shape_by bits_of p).has_length counted)

  all : length (header ++ payload) ≡ length header + length payload
  all = length-append header payload

  small : length (header ++ payload) ≤ 65527
  small = omega (arith, all, f.all, length_header bits_of p dst src token (length_field counted) placeholder (length_field_law counted ∙ sym (length_bytes_be 2 0)))

  inside : outside (header ++ payload) local versions ≡ false
  unfolding outside
  inside = rw (le-ltb 65527 (length (header ++ payload)) small, le-ltb 20 local a, le-ltb 16 (length versions) b)

  header_read : header_at (header ++ payload) local versions grease ≡ read
  unfolding read
  header_read =
      let k = kept (plain_number p) dst src f.rules in
      let e = header_then bits_of (length_field counted) p dst src token payload in
      rw e
      (header_back_law type_of bits_of tables dst src token (length_field counted) counted 2 (number_field (plain_number p) ++ payload) local versions grease p
      (shape_by bits_of p).first (first_steers bits_of p k.cut) (λ h. reads_length counted (length_small (shape_by bits_of p).has_length counted h f.len)) (λ h. omega (arith, few)) k y d (rw e at inside))

  one : 1 ≤ end_read bits_of p dst src token 2
  unfolding end_read
  one = omega arith

  steps : packet_step_at (header ++ payload) 0 local versions grease ≡ record { met = packet 0 (length (header ++ payload)); header = read }
  unfolding packet_step_at step_on cut_at met_on read read_as headed
  steps =
      let s = split_whole type_of bits_of p dst src token (header ++ payload) counted 2 local versions grease header_read (λ h. omega (arith, all, header_long)) in
      rw (inside, ne_eqb (length (header ++ payload)) 0 (λ e. omega (arith, e, all, header_long, one)), lt-leb (length (header ++ payload)) 0 (omega (arith, all, header_long, one)), s)

  -- the record of split
  abbrev pub answer : SplitAnswer
  answer = split_record 0 (length (header ++ payload)) read

  pub splits : split_for (header ++ payload) 0 local versions (flag grease) ≡ answer
  splits = rw (flag_small grease, flag_back grease, steps)

  back : walk_step_back (header ++ payload) answer ≡ record { met = packet 0 (length (header ++ payload)); header = read }
  back = rw splits at (split_back (header ++ payload) 0 local versions grease) ∙ steps

  pub to_back : named (header ++ payload) answer.dst_cid ≡ cid_bytes dst
  unfolding read read_as headed
  to_back =
      sym (cid_same (named (header ++ payload) answer.dst_cid)) ∙ ap (λ (x : PacketStep). cid_bytes x.header.dst) back ∙ cid_same (cid_bytes dst)

  pub from_back : named (header ++ payload) answer.src_cid ≡ src_read p src
  unfolding read read_as headed
  from_back =
      sym (cid_same (named (header ++ payload) answer.src_cid)) ∙ ap (λ (x : PacketStep). cid_bytes x.header.src) back ∙ cid_same (src_read p src)

  pub token_there : (shape_by bits_of p).has_token ≡ true → part_of (header ++ payload) (token_place bits_of p dst src token) ≡ token
  token_there h = rw (header_then bits_of (length_field counted) p dst src token payload) (token_back bits_of p dst src (shape_by bits_of p).first token (length_field counted) (number_field (plain_number p) ++ payload) h)

  pub number_there : answer.number_offset + number_size p ≡ length header
  unfolding read read_as headed
  number_there = sym header_long

-- ---- by the kind that is given

has_token_law : (c : CutNumber) (v : ℕ) → (shape_by bits_of (initial c v)).has_token ≡ true
has_token_law c v = refl

-- a flag is 1 or 0
flag_of : (n : ℕ) → n ≤ 1 → flag (eqb n 1) ≡ n
flag_of zero h = refl
flag_of (suc zero) h = refl
flag_of (suc (suc n)) h = absurd (omega (arith, h))

module _ (dst src token payload : List ℕ) (local : ℕ) (versions : List ℕ) (grease : Bool) (few : length token ≤ 65527) (a : local ≤ 20) (b : length versions ≤ 16) (w : HeaderAnswer) where
  -- what is known of p, and so what is left to say of its kind
  pub record Ready (p : Plain) : Type 0 where
    pub fit : Fit p (cid_of dst) (cid_of src) token (length payload)
    pub typed : Typed p (cid_of dst) (cid_of src)
    pub readable : Readable p (cid_of dst) local versions grease
    pub long : w.header_len ≡ length (written_header bits_of (length_field (number_size p + length payload)) p (cid_of dst) (cid_of src) token)
    pub number : w.number_len ≡ number_size p

  module _ (p : Plain) (y : Ready p) where
    abbrev said : SplitAnswer
    said = answer p (cid_of dst) (cid_of src) token payload local versions grease y.fit few y.typed y.readable a b

    abbrev sent : List ℕ
    sent = written_header bits_of (length_field (number_size p + length payload)) p (cid_of dst) (cid_of src) token ++ payload

    make : (h : HeaderGiven) → said.refusal ≡ 0 → said.kind ≡ h.kind → ((h.kind ≡ 4 → ⊥) → src_read p (cid_of src) ≡ src)
        → (h.kind < 4 → said.version ≡ h.version) → (h.kind ≡ 0 → named sent said.token ≡ token)
        → (h.kind < 3 → said.length ≡ h.number_len + length payload) → (numbered_kind h.kind ≡ true → number_size p ≡ h.number_len)
        → (h.kind ≡ 4 → said.spin ≡ h.spin) → (h.kind ≡ 5 → said.random ≡ h.random % 0x80) → ReadBack h dst src token (length payload) w sent said
    make h refusal kind from version names counts agrees spin random =
        record {
          refusal = refusal;
          kind = kind;
          packet = ap (span_at 0) (length-append (written_header bits_of (length_field (number_size p + length payload)) p (cid_of dst) (cid_of src) token) payload ∙ ap (λ (n : ℕ). n + length payload) (sym y.long));
          number = rw (y.long, y.number) (number_there p (cid_of dst) (cid_of src) token payload local versions grease y.fit few y.typed y.readable a b);
          to = to_back p (cid_of dst) (cid_of src) token payload local versions grease y.fit few y.typed y.readable a b ∙ cid_same dst;
          from = λ e. from_back p (cid_of dst) (cid_of src) token payload local versions grease y.fit few y.typed y.readable a b ∙ from e;
          version = version;
          names = names;
          counts = counts;
          agrees = λ e. y.number ∙ agrees e;
          spin = spin;
          random = random;
        }

  module _ (spin phase random version value len : ℕ) (o : spin ≤ 1) where
    abbrev given : ℕ → HeaderGiven
    given k = record { kind = k; spin = spin; key_phase = phase; random = random; version = version; number_value = value; number_len = len }

    by_kind : (k : ℕ) → k ≤ 5 → (y : Ready (plain_for (given k))) → ReadBack (given k) dst src token (length payload) w (sent (plain_for (given k)) y) (said (plain_for (given k)) y)
    unfolding read read_as headed kind_read version_read src_read numbered_kind
    by_kind zero l y = make _ y (given 0) refl refl (λ _. cid_same src) (λ _. refl) (λ _. token_there _ _ _ token payload local versions grease y.fit few y.typed y.readable a b refl) (λ _. refl) (λ _. refl) (λ e. absurd (omega (arith, e))) (λ e. absurd (omega (arith, e)))
    by_kind (suc zero) l y = make _ y (given 1) refl refl (λ _. cid_same src) (λ _. refl) (λ e. absurd (omega (arith, e))) (λ _. refl) (λ _. refl) (λ e. absurd (omega (arith, e))) (λ e. absurd (omega (arith, e)))
    by_kind (suc (suc zero)) l y = make _ y (given 2) refl refl (λ _. cid_same src) (λ _. refl) (λ e. absurd (omega (arith, e))) (λ _. refl) (λ _. refl) (λ e. absurd (omega (arith, e))) (λ e. absurd (omega (arith, e)))
    by_kind (suc (suc (suc zero))) l y = make _ y (given 3) refl refl (λ _. cid_same src) (λ _. refl) (λ e. absurd (omega (arith, e))) (λ e. absurd (omega (arith, e))) (λ e. absurd (let z : ◌≡◌ {A = ℕ} 0 1 = cc in omega arith)) (λ e. absurd (omega (arith, e))) (λ e. absurd (omega (arith, e)))
    by_kind (suc (suc (suc (suc zero)))) l y = make _ y (given 4) refl refl (λ e. absurd (e refl)) (λ e. absurd (omega (arith, e))) (λ e. absurd (omega (arith, e))) (λ e. absurd (omega (arith, e))) (λ _. refl) (λ _. flag_of spin o) (λ e. absurd (omega (arith, e)))
    by_kind (suc (suc (suc (suc (suc zero))))) l y = make _ y (given 5) refl refl (λ _. cid_same src) (λ e. absurd (omega (arith, e))) (λ e. absurd (omega (arith, e))) (λ e. absurd (omega (arith, e))) (λ e. absurd (let z : ◌≡◌ {A = ℕ} 0 1 = cc in omega arith)) (λ e. absurd (omega (arith, e))) (λ _. refl)
    by_kind (suc (suc (suc (suc (suc (suc k)))))) l y = absurd (omega (arith, l))

-- ---- and so of what header_write answers and stores

-- what is known where it answers refusal 0
record Sent (p : Plain) (dst src : ConnectionId) (token : List ℕ) (n : ℕ) (w : HeaderAnswer) (new : List ℕ) : Type 0 where
  fitting : fits p dst src token n ≡ true
  long : w.header_len ≡ length (written_header bits_of (length_field (number_size p + n)) p dst src token)
  number : w.number_len ≡ number_size p
  bytes : take w.header_len new ≡ written_header bits_of (length_field (number_size p + n)) p dst src token

module _ (p : Plain) (dst src : ConnectionId) (token : List ℕ) (n : ℕ) (old : List ℕ) (w : HeaderAnswer) (new : List ℕ) (z : w.refusal ≡ 0) where
  put_no : (k : ℕ) → (k ≡ 0 → ⊥) → PutsHeader p (no k) old w new → ⊥
  unfolding in_room length_of partial_of
  put_no k f u = f (sym (ap (λ (x : HeaderAnswer). x.refusal) u.says) ∙ z)

  put_ok : (bs : List ℕ) → PutsHeader p (ok bs) old w new → (w.header_len ≡ length bs) × ((w.number_len ≡ number_size p) × (take w.header_len new ≡ bs))
  unfolding in_room length_of partial_of into_buffer splice
  put_ok bs u = go (leb (length bs) (length old)) refl
    where
      go : (b : Bool) → leb (length bs) (length old) ≡ b → (w.header_len ≡ length bs) × ((w.number_len ≡ number_size p) × (take w.header_len new ≡ bs))
      go true e =
          let s = rw e at u.says in
          let l : w.header_len ≡ length bs = ap (λ (x : HeaderAnswer). x.header_len) s in
          (l, (ap (λ (x : HeaderAnswer). x.number_len) s, rw (l, rw e at u.leaves) (take_at bs _ (length bs) refl)))
      go false e = let s = rw e at u.says in absurd (omega (arith, sym (ap (λ (x : HeaderAnswer). x.refusal) s) ∙ z))

  sent_with : PutsHeader p (header_with p dst src token n) old w new → Sent p dst src token n w new
  unfolding header_with
  sent_with u = go (fits p dst src token n) refl
    where
      go : (b : Bool) → fits p dst src token n ≡ b → Sent p dst src token n w new
      go true e = let q = put_ok _ (rw e at u) in record { fitting = e; long = q.0; number = q.1.0; bytes = q.1.1 }
      go false e = absurd (put_no 14 (λ x. omega (arith, x)) (rw e at u))

-- arguments that keep their rules
record Keeps (h : HeaderGiven) (dst src len : ℕ) : Type 0 where
  kind : h.kind ≤ 5
  spin : h.spin ≤ 1
  to : dst ≤ 20
  from : src ≤ 20
  token : len ≤ 65527

keeps : (h : HeaderGiven) (dst src token n : ℕ) → headers.given_outside h dst src token n ≡ false → Keeps h dst src token
unfolding headers.given_outside
keeps h dst src token n e =
    let e6 = or_parts _ _ e in
    let e5 = or_parts _ _ e6.0 in
    let e4 = or_parts _ _ e5.0 in
    let e3 = or_parts _ _ e4.0 in
    let e2 = or_parts _ _ e3.0 in
    let e1 = or_parts _ _ e2.0 in
    record { kind = ltb-false _ _ e1.0; spin = ltb-false _ _ e1.1; to = ltb-false _ _ e3.1; from = ltb-false _ _ e4.1; token = ltb-false _ _ e5.1 }

-- a connection id has an array of 20
cid_array : (bs : List ℕ) → length bs ≤ 20 → length (cid_of bs).bytes ≡ 20
unfolding cid_of
cid_array bs h = simp (length-append, length-replicate) (omega (arith, h))

abbrev Small : Plain → Type 0
Small p = version_read p < 2 ^ 32

version_given : (h : HeaderGiven) → h.version < 2 ^ 32 → Small (plain_for h)
unfolding version_read
version_given h l =
    let c : CutNumber = record { 0 = h.number_len; 1 = h.number_value } in
    let from4 : Plain = if eqb h.kind 4 then short (eqb h.spin 1) (eqb h.key_phase 1) c else negotiate h.random in
    let from3 : Plain = if eqb h.kind 3 then retry h.version else from4 in
    let from2 : Plain = if eqb h.kind 2 then handshake c h.version else from3 in
    if_all Small (eqb h.kind 0) (initial c h.version) (if eqb h.kind 1 then zero_rtt c h.version else from2) (λ _. l) (λ _.
    if_all Small (eqb h.kind 1) (zero_rtt c h.version) from2 (λ _. l) (λ _.
    if_all Small (eqb h.kind 2) (handshake c h.version) from3 (λ _. l) (λ _.
    if_all Small (eqb h.kind 3) (retry h.version) from4 (λ _. l) (λ _.
    if_all Small (eqb h.kind 4) (short (eqb h.spin 1) (eqb h.key_phase 1) c) (negotiate h.random) (λ _. omega arith) (λ _. omega arith)))))

pub written_back : WrittenIsRead
written_back h dst src token payload old w new local versions grease u z v d a b = go (headers.given_outside h (length dst) (length src) (length token) (length payload)) refl
  where
    go : (t : Bool) → headers.given_outside h (length dst) (length src) (length token) (length payload) ≡ t
        → ReadBack h dst src token (length payload) w (take w.header_len new ++ payload) (split_for (take w.header_len new ++ payload) 0 local versions (flag grease))
    go true e = absurd (put_no (plain_for h) (cid_of dst) (cid_of src) token (length payload) old w new z 14 (λ x. omega (arith, x)) (rw (for_no h dst src token (length payload) e) at u))
    go false e =
        let k = keeps h (length dst) (length src) (length token) (length payload) e in
        let s = sent_with (plain_for h) (cid_of dst) (cid_of src) token (length payload) old w new z (rw (for_ok h dst src token (length payload) e) at u) in
        let y : Ready dst src token payload local versions grease k.token a b w (plain_for h) =
        record {
          fit = fit (plain_for h) (cid_of dst) (cid_of src) token (length payload) s.fitting;
          typed = record { version = version_given h v; to = cid_array dst k.to; from = cid_array src k.from };
          readable = d;
          long = s.long;
          number = s.number;
        } in
        rw (s.bytes, splits (plain_for h) (cid_of dst) (cid_of src) token payload local versions grease y.fit k.token y.typed d a b)
        (by_kind dst src token payload local versions grease k.token a b w h.spin h.key_phase h.random h.version h.number_value h.number_len k.spin h.kind k.kind y)
