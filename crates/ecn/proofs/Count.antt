-- Where the counts start.
use mathlib.Core.Path.{◌≡◌, refl}
use mathlib.Core.Bool.{Bool, true, false, cond}
use Prim.Native.Nat.{ℕ, ◌+◌}
use lib.Dec.{eqb}
use Rattle.ecn.specs.Counts.{zero_counts, count_of, counts_after}
use Rattle.ecn.specs.declared.EcnCounts.{EcnCounts}

-- the first mark, whichever it is, is one in all
pub first_mark : (bits : ℕ) → let c = counts_after zero_counts bits in c.ect0 + c.ect1 + c.ce ≡ 1
unfolding count_of
first_mark bits = go (eqb bits 0b10) (eqb bits 0b01)
  where
    raised : Bool → Bool → EcnCounts
    raised a b =
        cond a (record { ect0 = count_of zero_counts.ect0; ect1 = zero_counts.ect1; ce = zero_counts.ce })
        (cond b (record { ect0 = zero_counts.ect0; ect1 = count_of zero_counts.ect1; ce = zero_counts.ce })
        (record { ect0 = zero_counts.ect0; ect1 = zero_counts.ect1; ce = count_of zero_counts.ce }))

    go : (a b : Bool) → (raised a b).ect0 + (raised a b).ect1 + (raised a b).ce ≡ 1
    go true b = refl
    go false true = refl
    go false false = refl
