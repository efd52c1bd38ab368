-- Each map from the code's answers to the paper's words has an inverse: what is said settles the answer.
use Rattle.std.specs.Prelude.{Option, Some, None, Result, Ok, Err}
use mathlib.Core.Path.{◌≡◌, refl, ap}
use mathlib.Core.Option as math
use Rattle.coding.specs.Words.{Answer}
use Rattle.coding.specs.declared.Place.{Place}
use Rattle.coding.specs.declared.refusal.Refusal.{Refusal}
use Rattle.coding.proofs.Numbers.{refusal_of, refusal_back}
use Rattle.coding.proofs.Inverse.{one_by, answered}
use Rattle.protect.specs.Steps.{Opened, unnumbered, long, short}
use Rattle.protect.specs.Said.{sample_of, opened_of, finished_of}
use Rattle.protect.specs.declared.Finished.{Finished}
use Rattle.protect.specs.declared.Finished.TheVariants as fin

abbrev sample_by : math.Option Place → Result (Option Place) Refusal
sample_by math.none = Ok None
sample_by (math.some place) = Ok (Some place)

pub sample_one : (x y : Result (Option Place) Refusal) (g : Answer (math.Option Place)) → sample_of x ≡ g → sample_of y ≡ g → x ≡ y
unfolding sample_of
sample_one = one_by sample_of (answered (λ k. Err (refusal_of k)) sample_by) back
  where
    back : (r : Result (Option Place) Refusal) → answered (λ k. Err (refusal_of k)) sample_by (sample_of r) ≡ r
    back (Ok (Some place)) = refl
    back (Ok None) = refl
    back (Err why) = ap Err (refusal_back why)

abbrev finished_by : Opened → Result (Option Finished) Refusal
finished_by unnumbered = Ok None
finished_by (long k v clear) = Ok (Some (fin.Long (record { 0 = k; 1 = v }) clear))
finished_by (short k v clear phase) = Ok (Some (fin.Short (record { 0 = k; 1 = v }) clear phase))

pub finished_one : (x y : Result (Option Finished) Refusal) (g : Answer Opened) → finished_of x ≡ g → finished_of y ≡ g → x ≡ y
unfolding finished_of opened_of
finished_one = one_by finished_of (answered (λ k. Err (refusal_of k)) finished_by) back
  where
    back : (r : Result (Option Finished) Refusal) → answered (λ k. Err (refusal_of k)) finished_by (finished_of r) ≡ r
    back (Ok (Some (fin.Long number clear))) = refl
    back (Ok (Some (fin.Short number clear phase))) = refl
    back (Ok None) = refl
    back (Err why) = ap Err (refusal_back why)
