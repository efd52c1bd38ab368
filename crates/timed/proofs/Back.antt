-- What the records give back: of one item what the crate below says of it, of several how many they are, of a writer its answer.
use Rattle.std.specs.Prelude.{if◌then◌else◌}
use Prim.Native.Nat.{ℕ, ◌+◌, ◌*◌, ◌/◌, ◌%◌, ◌^◌, ◌<◌}
use mathlib.Core.Path.{◌≡◌, refl, sym, ◌∙◌}
use mathlib.Core.List.{List, [], ◌∷◌, map}
use mathlib.Core.Bool.{Bool, true, false}
use native.Mathlib.Omega.{arith}
use lib.ListN.{length}
use lib.Bits.{xor_self}
use lib.Dec.{eqb}
use borrow.Author.Tests.{ne_eqb}
use Rattle.coding.specs.Words.{Got, got, and_then, Answer, no, ok}
use Rattle.coding.specs.Words as found
use Rattle.coding.specs.Varint.{var_at}
use Rattle.coding.specs.Refusals.{number_of}
use Rattle.coding.specs.declared.refusal.Refusal.TheVariants as ref
use Rattle.coding.proofs.Numbers.{Refuses}
use Rattle.shared.specs.declared.kinds.CutNumber.{CutNumber}
use Rattle.number.specs.Cutting.{cut, cut_made}
use Rattle.number.specs.Expanding.{expanded}
use Rattle.number.proofs.Windows.{cut_rule}
use Rattle.number.proofs.Cuts.{cut_is, cut_kept}
use Rattle.number.proofs.Refusing.{cut_refuses, expanded_refuses}
use Rattle.frame.specs.Format.{num, said, Said, Read, done, refuse, field_at, fields_at}
use Rattle.frame.specs.Table.{flag, table, frame_body_at}
use Rattle.timed.specs.Timed.{gathered_from, gathered, vars_of, cut_said, cuts_of, fulls_of, write_record, flagged}
use Rattle.timed.specs.declared.GatheredAnswer.{GatheredAnswer}
use Rattle.timed.proofs.Laws.{start, vars_end, vars_cut, vars_on, flag_no, flag_on}

-- ---- answers one after the other

-- the answer to one: what f makes of the number, or the refusal
abbrev one_back : {A : Type 0} → (ℕ → A) → GatheredAnswer → Answer A
one_back f r = if eqb r.refusal 0 then ok (f r.mixed) else no r.refusal

-- one packet number is cut as `number` says: the length stands above the value's four bytes
pub cut_back : (n acked : ℕ) → one_back (λ x. cut (x / 2 ^ 32) (x % 2 ^ 32)) (gathered (cuts_of acked (n ∷ []))) ≡ cut_made n acked
unfolding gathered gathered_from cut_said
cut_back n acked = go (cut_made n acked) refl (cut_refuses n acked)
  where
    go : (a : Answer CutNumber) → cut_made n acked ≡ a → Refuses a → one_back (λ x. cut (x / 2 ^ 32) (x % 2 ^ 32)) (gathered (cut_said a ∷ [])) ≡ a
    go (no k) e h = rw (ne_eqb k 0 h)
    go (ok c) e h =
        let r = cut_rule c (cut_kept (cut_is n acked c e)) in
        let v : c.1 < 2 ^ 32 = omega (arith, r.value, r.window.most) in
        let x : (c.1 + c.0 * 2 ^ 32) / 2 ^ 32 ≡ c.0 = omega arith in
        let y : (c.1 + c.0 * 2 ^ 32) % 2 ^ 32 ≡ c.1 = omega arith in
        λ i. ok (cut (x i) (y i))

-- and one cut number is read back as `number` says
pub full_back : (k expected v : ℕ) → one_back (λ x. x) (gathered (fulls_of k expected (v ∷ []))) ≡ expanded (cut k v) expected
unfolding gathered gathered_from
full_back k expected v = go (expanded (cut k v) expected) (expanded_refuses (cut k v) expected)
  where
    go : (a : Answer ℕ) → Refuses a → one_back (λ x. x) (gathered (a ∷ [])) ≡ a
    go (no j) h = rw (ne_eqb j 0 h)
    go (ok n) h = refl

-- one integer, whole or cut, is read as the body of MAX_DATA is
abbrev body_back : ℕ → GatheredAnswer → Read Said
body_back n r = if eqb r.refusal 0 then done (said 0x10 (num r.mixed ∷ [])) n else refuse r.refusal

pub var_back : (s : List ℕ) → 0 < length s → ((v next : ℕ) → var_at s 0 ≡ got v next → next ≡ length s)
    → body_back (length s) (gathered (vars_of s)) ≡ frame_body_at table 0x10 s 0
unfolding frame_body_at table fields_at field_at and_then
var_back s h one = go (var_at s 0) refl
  where
    go : (m : Got ℕ) → var_at s 0 ≡ m → body_back (length s) (gathered (vars_of s)) ≡ frame_body_at table 0x10 s 0
    go found.cut e =
        let g = sym (start s) ∙ vars_cut s 0 0 0 (omega arith) h e in
        rw (g, e)
    go (got v next) e =
        let l : next ≡ length s = one v next e in
        let g = sym (start s) ∙ vars_on s 0 0 0 (omega arith) h v next e ∙ vars_end s next 1 v _ (omega arith) in
        rw (g, e, l)

-- as many are counted as there are, and two that are alike cancel out
pub counts : (vs : List ℕ) → (gathered (map ok vs)).count ≡ length vs
unfolding gathered gathered_from
counts vs = from vs 0 0 ∙ omega arith
  where
    from : (ws : List ℕ) (n mixed : ℕ) → (gathered_from (map ok ws) n mixed).count ≡ n + length ws
    from [] n mixed = omega arith
    from (w ∷ ws) n mixed = from ws (n + 1) _ ∙ omega arith

pub twice : (v : ℕ) → (gathered (ok v ∷ ok v ∷ [])).mixed ≡ 0
unfolding gathered gathered_from
twice v = xor_self v

-- ---- writers

-- a writer's record is its answer
pub write_back : (w : Answer ℕ) → Refuses w → (if eqb (write_record w).refusal 0 then ok (write_record w).len else no (write_record w).refusal) ≡ w
unfolding write_record
write_back (ok n) h = refl
write_back (no k) h = rw (ne_eqb k 0 h)

-- a flag of the table's is taken, and any other is refused as an argument
pub flag_back : (b : Bool) (w : Answer (List ℕ)) → flagged (flag b) w ≡ w
flag_back true w = flag_on 1 w (omega arith)
flag_back false w = flag_on 0 w (omega arith)

pub flag_refused : (n : ℕ) (w : Answer (List ℕ)) → 1 < n → flagged n w ≡ no (number_of ref.Argument)
flag_refused n w h = flag_no n w h
