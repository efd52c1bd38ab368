-- The line of three spaces is not empty: all three move; an acknowledgement shortens the next cut of its own space alone; and every
-- length is read rightly and misread in every space. The incident: an acknowledgement of a number that its space did not send is 14.
use Prim.Native.Nat.{ℕ, ◌≤◌}
use mathlib.Core.Path.{◌≡◌, refl, sym, ap, ◌∙◌}
use mathlib.Core.Bool.{Bool, true, false}
use mathlib.Core.Option.{some}
use mathlib.Core.List.{Memᴰ}
use Rattle.coding.specs.Words.{Answer, ok}
use Rattle.number.specs.Cutting.{cut, window_of, is_cut, bytes_for, cut_to, cut_made}
use Rattle.number.specs.Expanding.{decode_a3, expanded}
use Rattle.number.specs.Ends.{none, at, Ends, fresh_ends, base_of, expected_of, larger_of, Packet, refused, done, send_end, send_with, send_by, acknowledge_by, read_by}
use Rattle.number.specs.Line.{World, Reach, AsSent}
use Rattle.number.specs.Line.Reach.{next as one_next}
use Rattle.number.proofs.Calls.{acknowledge_14, acknowledge_unsent}
use Rattle.number.proofs.BothWays.{Shown, FurtherOn, runs_rightly, runs_misread, runs_shorter}
use Rattle.packet.specs.declared.header.SpaceId.{SpaceId}
use Rattle.packet.specs.declared.header.SpaceId.TheVariants as id
use Rattle.protect.specs.declared.Kind.{Kind}
use Rattle.spaces.specs.Each.{of, space_for}
use Rattle.spaces.specs.Calls.{Spaces, refused_all, within, lifted, send_call, send_in, acknowledge_in}
use Rattle.spaces.specs.Lines.{Worlds, LinesStep, Reaches, view}
use Rattle.spaces.proofs.Lifts.{lifted_says}
use Rattle.spaces.proofs.Puts.{put_same, put_other}
use Rattle.spaces.proofs.Views.{with, steps, trio, third}

-- ---- an acknowledgement, and its own space

-- 128, in as many bytes
abbrev pub next128 : ℕ → Answer Packet
next128 k = ok (record { number = 128; carries = cut k 128 })

sends_as : (x : Spaces) (k : Kind) {s : SpaceId} → space_for k ≡ some s → (send_in x k).says ≡ (send_by (of x s)).says
sends_as x k {s} q = rw q (lifted_says send_call x s)

-- 128 packets were sent in each space, and the last was accepted and acknowledged; what one space hears shortens its next cut alone
pub record Own (s : SpaceId) : Type 0 where
  pub before : Worlds
  pub after : Worlds
  pub reach : Reaches before
  pub step : LinesStep before after
  pub two : (k : Kind) (t : SpaceId) → space_for k ≡ some t → (send_in before.sender k).says ≡ next128 2
  pub one : (k : Kind) → space_for k ≡ some s → (send_in after.sender k).says ≡ next128 1
  pub others : (k : Kind) (t : SpaceId) → space_for k ≡ some t → (s ≡ t → ⊥) → (send_in after.sender k).says ≡ next128 2

sent_all : Worlds
sent_all = trio runs_shorter.before runs_shorter.before runs_shorter.before

sent_all_is : (s : SpaceId) → view sent_all s ≡ runs_shorter.before
unfolding sent_all
sent_all_is id.Initial = refl
sent_all_is id.Handshake = refl
sent_all_is id.Data = refl

sent_all_reached : Reaches sent_all
unfolding sent_all
sent_all_reached = third runs_shorter.reach runs_shorter.reach runs_shorter.reach

pub runs_own : (s : SpaceId) → Own s
runs_own s =
    record {
      before = sent_all;
      after = with sent_all s runs_shorter.after;
      reach = sent_all_reached;
      step = steps sent_all s (rw (sent_all_is s) runs_shorter.step);
      two = two;
      one = λ k q. sends_as (with sent_all s runs_shorter.after).sender k q ∙ rw (put_same sent_all.sender s runs_shorter.after.sender) runs_shorter.one;
      others =
          λ k t q n.
          sends_as (with sent_all s runs_shorter.after).sender k q
          ∙ ap (λ (e : Ends). (send_by e).says) (put_other sent_all.sender s t runs_shorter.after.sender n)
          ∙ sym (sends_as sent_all.sender k q)
          ∙ two k t q;
    }
  where
    two : (k : Kind) (t : SpaceId) → space_for k ≡ some t → (send_in sent_all.sender k).says ≡ next128 2
    two k t q = sends_as sent_all.sender k q ∙ ap (λ (w : World). (send_by w.sender).says) (sent_all_is t) ∙ runs_shorter.two

-- all three have heard
pub record All : Type 0 where
  pub worlds : Worlds
  pub reach : Reaches worlds
  pub one : (k : Kind) (s : SpaceId) → space_for k ≡ some s → (send_in worlds.sender k).says ≡ next128 1

pub runs_all : All
runs_all =
    record {
      worlds = trio after after after;
      reach = third heard heard heard;
      one = λ k s q. sends_as (trio after after after).sender k q ∙ says s;
    }
  where
    after : World
    after = runs_shorter.after

    heard : Reach after
    heard = one_next runs_shorter.reach runs_shorter.step

    says : (s : SpaceId) → (send_by (of (trio after after after).sender s)).says ≡ next128 1
    says id.Initial = runs_shorter.one
    says id.Handshake = runs_shorter.one
    says id.Data = runs_shorter.one

-- ---- every length, in every space, both ways, beside two spaces that have moved

pub record ShownIn (s : SpaceId) (k : ℕ) (claim : World → Packet → Type 0) : Type 0 where
  pub worlds : Worlds
  pub reach : Reaches worlds
  pub packet : Packet
  pub sent : Memᴰ packet (of worlds.sent s)
  pub takes : packet.carries.0 ≡ k
  pub so : claim (view worlds s) packet

in_space : (s : SpaceId) {k : ℕ} {claim : World → Packet → Type 0} → Shown k claim → ShownIn s k claim
in_space s {k} {claim} x = go s
  where
    before : World
    before = runs_shorter.before

    go : (s : SpaceId) → ShownIn s k claim
    go id.Initial =
        record { worlds = trio x.world before before; reach = third x.reach runs_shorter.reach runs_shorter.reach; packet = x.packet; sent = x.sent; takes = x.takes; so = x.so }
    go id.Handshake =
        record { worlds = trio before x.world before; reach = third runs_shorter.reach x.reach runs_shorter.reach; packet = x.packet; sent = x.sent; takes = x.takes; so = x.so }
    go id.Data =
        record { worlds = trio before before x.world; reach = third runs_shorter.reach runs_shorter.reach x.reach; packet = x.packet; sent = x.sent; takes = x.takes; so = x.so }

pub rightly_in : (s : SpaceId) (k : ℕ) → 1 ≤ k → k ≤ 4 → ShownIn s k AsSent
rightly_in s k p q = in_space s (runs_rightly k p q)

pub misread_in : (s : SpaceId) (k : ℕ) → 1 ≤ k → k ≤ 4 → ShownIn s k (FurtherOn k)
misread_in s k p q = in_space s (runs_misread k p q)

-- ---- the request's incident: a number that was not sent in that space is 14, whatever the other spaces have sent

unsent : (e : Ends) (n : ℕ) → e.next ≤ n → acknowledge_by e n ≡ refused 14 e
unsent e n p = go (send_end e) refl
  where
    go : (t : Bool) → send_end e ≡ t → acknowledge_by e n ≡ refused 14 e
    go false t = sym (acknowledge_14 e n t)
    go true t = sym (acknowledge_unsent e n t p)

pub wrong_space : (x : Spaces) (k : Kind) (s : SpaceId) (n : ℕ) → space_for k ≡ some s → (of x s).next ≤ n → acknowledge_in x k n ≡ refused_all 14 x
unfolding lifted within
wrong_space x k s n q p = rw (q, unsent (of x s) n p)

-- ---- why acknowledgements are delivered to their own space: an end that sent 0 to 1000 here, of which nothing arrived, is fed another
-- space's acknowledgement of 1000; it then sends 1001 in one byte, and that is read as 233

pub record Fed : Type 0 where
  pub end : Ends
  pub hears : acknowledge_by (record { next = 1001; acked = none; largest = none }) 1000 ≡ done tt end
  pub sends : (send_by end).says ≡ ok (record { number = 1001; carries = cut 1 233 })
  pub reads : read_by fresh_ends (cut 1 233) ≡ ok 233

pub fed_wrongly : Fed
unfolding acknowledge_by send_end expected_of larger_of send_by send_with base_of cut_made cut_to bytes_for window_of read_by expanded is_cut decode_a3
fed_wrongly = record { end = record { next = 1001; acked = at 1000; largest = none }; hears = refl; sends = refl; reads = refl }
