-- Each map from the code's answers to the paper's words has an inverse: what is said settles the answer.
use mathlib.Core.Path.{◌≡◌, refl, ap}
use mathlib.Core.Option.{Option as Maybe, none, some}
use Prim.Native.Nat.{ℕ}
use Rattle.std.specs.Prelude.{Option, Some, None, Result, Ok, Err}
use Rattle.coding.specs.Words.{Answer}
use Rattle.coding.specs.declared.refusal.Refusal.{Refusal}
use Rattle.coding.proofs.Numbers.{refusal_of, refusal_back}
use Rattle.coding.proofs.Inverse.{one_by, answered}
use Rattle.packet_out.specs.Encoding.{Partial}
use Rattle.packet_out.specs.Said.{partial_said, encoded_of}
use Rattle.packet_out.specs.declared.PartialEncode.{PartialEncode}

abbrev len_by : Maybe ℕ → Option ℕ
len_by none = None
len_by (some k) = Some k

abbrev part_by : Partial → PartialEncode
part_by p = record { header_len = p.header_len; number = len_by p.number; has_length = p.has_length }

part_back : (p : PartialEncode) → part_by (partial_said p) ≡ p
part_back p = go p.number
  where
    go : (n : Option ℕ) → part_by (partial_said (record { header_len = p.header_len; number = n; has_length = p.has_length }))
        ≡ record { header_len = p.header_len; number = n; has_length = p.has_length }
    go (Some k) = refl
    go None = refl

pub encoded_one : (x y : Result PartialEncode Refusal) (g : Answer Partial) → encoded_of x ≡ g → encoded_of y ≡ g → x ≡ y
unfolding encoded_of
encoded_one = one_by encoded_of (answered (λ k. Err (refusal_of k)) (λ p. Ok (part_by p))) back
  where
    back : (r : Result PartialEncode Refusal) → answered (λ k. Err (refusal_of k)) (λ p. Ok (part_by p)) (encoded_of r) ≡ r
    back (Ok p) = ap Ok (part_back p)
    back (Err why) = ap Err (refusal_back why)
