-- The bits that a number of 64 bits has in use, which are 64 less its leading zeros, beside a power of two: once over the power.
use Prim.Native.Nat.{ℕ, suc, ◌-◌, ◌^◌, ◌≤◌, ◌<◌}
use native.Mathlib.Nat.{lt_of_lt_of_le, two-pow-succ}
use native.Mathlib.Omega.{arith}
use lib.Pow.{pow_mono}
use lib.Count.{count_leading_zeros, leading_length}

module _ (x j : ℕ) (fits : x < 2 ^ 64) where
  -- at most j bits in use: x is below 2^j
  pub bits_most : 64 - count_leading_zeros 64 x ≤ j → x < 2 ^ j
  bits_most h =
      let l = leading_length 64 x fits in
      lt_of_lt_of_le l.2 (pow_mono {i = l.0} {j = j} (omega arith))

  -- more than j: 2^j is at most x
  pub bits_more : j < 64 - count_leading_zeros 64 x → 2 ^ j ≤ x
  bits_more h =
      let l = leading_length 64 x fits in
      let up : 2 ^ suc j ≤ 2 ^ l.0 = pow_mono {i = suc j} {j = l.0} (omega arith) in
      omega (arith, l.3, two-pow-succ j)
