-- The records of sample_place and unmask give back what `protect` says.
use Rattle.std.specs.Prelude.{◌/◌, eqb, ltb, if◌then◌else◌}
use Prim.Native.Nat.{ℕ, ◌+◌, ◌≤◌}
use mathlib.Core.Path.{◌≡◌, refl, ap}
use mathlib.Core.List.{List}
use mathlib.Core.Bool.{Bool, true, false}
use mathlib.Core.Option.{Option, none, some, Option-elim}
use native.Mathlib.Omega.{arith}
use lib.ListN.{length}
use lib.Dec.{leb}
use borrow.Author.Tests.{le-ltb, le-leb, leb-true, eq-eqb, ne_eqb}
use Rattle.coding.specs.Words.{Answer, no, ok, max_datagram}
use Rattle.coding.specs.Bytes.{byte_at}
use Rattle.coding.specs.declared.Place.{Place}
use Rattle.coding.proofs.Rules.{if_all}
use Rattle.coding.proofs.Numbers.{Refuses, fourteen}
use Rattle.shared.specs.FirstByte.{long_header_form}
use Rattle.packet.specs.Header.{initial, zero_rtt, handshake, retry, short, negotiate, is_long}
use Rattle.number.specs.Cutting.{tag_length}
use Rattle.protect.specs.Tests.{in_size, has_sample, form_bit}
use Rattle.protect.specs.Protection.{removed}
use Rattle.protect.specs.Steps.{read_off, sample_at, opened_by, open_at, finish_at, finished, header_place, payload_place}
use Rattle.protect.specs.Steps as opened
use Rattle.gateway_frame.specs.Spans.{place_back}
use Rattle.gateway.specs.Arguments.{long_kind, numbered_kind, kind_at}
use Rattle.gateway.specs.Packets.{sample_record, unmask_record, in_mask, unmask_at}
use Rattle.gateway.specs.GivesBack.{sample_back, SampleGivesBack, opened_back, UnmaskGivesBack, KindsAgree}
use Rattle.gateway.specs.declared.records.UnmaskAnswer.{UnmaskAnswer}
use Rattle.gateway.proofs.Taken.{flag_back}

-- ---- the kinds

pub kinds_agree : KindsAgree
unfolding long_kind kind_at numbered_kind Option-elim
kinds_agree (initial token len) = (refl, refl, refl)
kinds_agree (zero_rtt len) = (refl, refl, refl)
kinds_agree (handshake len) = (refl, refl, refl)
kinds_agree retry = (refl, refl, refl)
kinds_agree (short spin) = (refl, refl, refl)
kinds_agree (negotiate bits) = (refl, refl, refl)

-- ---- the sample

abbrev SampleBack : Answer (Option Place) → Type 0
SampleBack a = sample_back (sample_record a) ≡ a

sample_no : (k : ℕ) → (k ≡ 0 → ⊥) → SampleBack (no k)
sample_no k z = rw (ne_eqb k 0 z)

sample_none : SampleBack (ok none)
sample_none = refl

sample_some : (start : ℕ) → SampleBack (ok (some (record { start = start; len = 16 })))
sample_some start = refl

sample_said : (numbered : Bool) (s : List ℕ) (at : ℕ) → SampleBack (sample_at numbered s at)
unfolding sample_at in_size
sample_said numbered s at =
    let sample : Answer (Option Place) = ok (some (record { start = at + 4; len = 16 })) in
    let room : Answer (Option Place) = if has_sample (length s) at then sample else no 8 in
    let there : Answer (Option Place) = if eqb at 0 then no 14 else room in
    if_all SampleBack (ltb max_datagram (length s)) (no 14) (if numbered then there else ok none) (λ _. sample_no 14 fourteen) (λ _.
    if_all SampleBack numbered there (ok none)
    (λ _. if_all SampleBack (eqb at 0) (no 14) room (λ _. sample_no 14 fourteen) (λ _.
    if_all SampleBack (has_sample (length s) at) sample (no 8) (λ _. sample_some (at + 4)) (λ _. sample_no 8 (λ z. omega (arith, z)))))
    (λ _. sample_none))

pub sample_back_law : SampleGivesBack
sample_back_law kind s at h = rw (le-ltb 5 kind h) (sample_said (numbered_kind kind) s at)

-- ---- unmask

-- a packet with a number that is opened has room for four bytes and the sample
module _ (is_long : Bool) (s : List ℕ) (at : ℕ) (mask : List ℕ) where
  abbrev Roomy : Answer (List ℕ) → Type 0
  Roomy (ok new) = at + 4 + 16 ≤ length s
  Roomy (no k) = k ≡ 0 → ⊥

  open_roomy : Roomy (open_at is_long s at mask)
  unfolding open_at
  open_roomy =
      let form : Bool = eqb (byte_at s 0 / long_header_form) (form_bit is_long) in
      let opened : Answer (List ℕ) = ok (removed is_long mask at s) in
      let sampled : Answer (List ℕ) = if has_sample (length s) at then (if form then opened else no 14) else no 8 in
      if_all Roomy (eqb at 0) (no 14) sampled (λ _. fourteen) (λ _.
      if_all Roomy (has_sample (length s) at) (if form then opened else no 14) (no 8) (λ room.
      if_all Roomy form opened (no 14) (λ _. leb-true _ _ room) (λ _. fourteen))
      (λ _ z. omega (arith, z)))

  size_roomy : (a : Answer (List ℕ)) → Roomy a → Roomy (in_size s a)
  unfolding in_size
  size_roomy a h = if_all Roomy (ltb max_datagram (length s)) (no 14) a (λ _. fourteen) (λ _. h)

  finish_roomy : Roomy (finish_at true is_long s at mask)
  unfolding finish_at
  finish_roomy = size_roomy (open_at is_long s at mask) open_roomy

  size_refuses : (a : Answer (List ℕ)) → Refuses a → Refuses (in_size s a)
  unfolding in_size
  size_refuses a h = if_all (Refuses {A = List ℕ}) (ltb max_datagram (length s)) (no 14) a (λ _. fourteen) (λ _. h)

  bare_refuses : Refuses (finish_at false is_long s at mask)
  unfolding finish_at
  bare_refuses = size_refuses (ok s) tt

few : (first : ℕ) → tag_length first ≤ 4
few first = omega arith

module _ (at len : ℕ) where
  -- what a number of k bytes answers
  long_back : (k v : ℕ) (clear : Bool) → opened_back true true (unmask_record at len (ok (opened.long k v clear))) ≡ ok (opened.long k v clear)
  long_back k v clear = ap (λ (b : Bool). ok (opened.long k v b)) (flag_back clear)

  short_back : (k v : ℕ) (clear phase : Bool) → opened_back true false (unmask_record at len (ok (opened.short k v clear phase))) ≡ ok (opened.short k v clear phase)
  short_back k v clear phase i = ok (opened.short k v (flag_back clear i) (flag_back phase i))

  -- a refusal
  no_back : (numbered is_long : Bool) (k : ℕ) → (k ≡ 0 → ⊥) → opened_back numbered is_long (unmask_record at len (no k)) ≡ no k
  no_back numbered is_long k z = rw (ne_eqb k 0 z)

  bare_back : (is_long : Bool) → opened_back false is_long (unmask_record at len (ok opened.unnumbered)) ≡ ok opened.unnumbered
  bare_back is_long = refl

-- by what finish leaves
module _ (s : List ℕ) (at : ℕ) (mask : List ℕ) where
  abbrev recorded : Bool → Bool → Answer (List ℕ) → UnmaskAnswer
  recorded numbered is_long w = unmask_record at (length s) (read_off (finished numbered is_long at) w)

  record Back (numbered is_long : Bool) (w : Answer (List ℕ)) : Type 0 where
    says : opened_back numbered is_long (recorded numbered is_long w) ≡ read_off (finished numbered is_long at) w
    header : numbered ≡ true → (recorded numbered is_long w).refusal ≡ 0 → place_back (recorded numbered is_long w).header ≡ header_place at (some (recorded numbered is_long w).number_len)
    payload : numbered ≡ true → (recorded numbered is_long w).refusal ≡ 0
        → place_back (recorded numbered is_long w).payload ≡ payload_place at (some (recorded numbered is_long w).number_len) (length s)

  finish_back : (numbered is_long : Bool) (w : Answer (List ℕ)) → (numbered ≡ true → Roomy is_long s at mask w) → (numbered ≡ false → Refuses w) → Back numbered is_long w
  unfolding read_off finished opened.opened opened_by
  finish_back false is_long (ok new) f g = record { says = bare_back at (length s) is_long; header = λ e. let z : ◌≡◌ {A = ℕ} 0 1 = cc in absurd (omega arith); payload = λ e. let z : ◌≡◌ {A = ℕ} 0 1 = cc in absurd (omega arith) }
  finish_back false is_long (no k) f g = record { says = no_back at (length s) false is_long k (g refl); header = λ e z. absurd (g refl z); payload = λ e z. absurd (g refl z) }
  finish_back true is_long (no k) f g = record { says = no_back at (length s) true is_long k (f refl); header = λ e z. absurd (f refl z); payload = λ e z. absurd (f refl z) }
  finish_back true true (ok new) f g =
      let r : leb (at + tag_length (byte_at new 0)) (length s) ≡ true = le-leb (at + tag_length (byte_at new 0)) (length s) (omega (arith, f refl, few (byte_at new 0))) in
      record { says = long_back at (length s) _ _ _; header = λ e z. rw r; payload = λ e z. rw r }
  finish_back true false (ok new) f g =
      let r : leb (at + tag_length (byte_at new 0)) (length s) ≡ true = le-leb (at + tag_length (byte_at new 0)) (length s) (omega (arith, f refl, few (byte_at new 0))) in
      record { says = short_back at (length s) _ _ _ _; header = λ e z. rw r; payload = λ e z. rw r }

unmask_ok : (kind : ℕ) (s : List ℕ) (at : ℕ) (mask : List ℕ) → kind ≤ 5 → length mask ≡ 5
    → unmask_at kind s at mask ≡ finish_at (numbered_kind kind) (long_kind kind) s at mask
unfolding unmask_at in_mask
unmask_ok kind s at mask h k = rw (le-ltb 5 kind h, eq-eqb (length mask) 5 k)

pub unmask_back : UnmaskGivesBack
unmask_back kind s at mask r new h k u =
    let b = finish_back s at mask (numbered_kind kind) (long_kind kind) (finish_at (numbered_kind kind) (long_kind kind) s at mask)
    (λ e. rw e (finish_roomy (long_kind kind) s at mask)) (λ e. rw e (bare_refuses (long_kind kind) s at mask)) in
    rw (u.says, unmask_ok kind s at mask h k) (record { says = b.says; header = b.header; payload = b.payload })
