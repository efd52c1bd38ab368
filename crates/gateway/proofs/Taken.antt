-- An argument is what it was taken for: a flag; a kind by its number, what it is, whether it is long, whether it has a packet number.
use Rattle.std.specs.Prelude.{eqb, ltb}
use mathlib.Core.Path.{◌≡◌, refl}
use mathlib.Core.Bool.{Bool, true, false}
use mathlib.Core.Option.{none}
use Prim.Native.Nat.{ℕ, ◌<◌}
use native.Mathlib.Omega.{arith}
use borrow.Author.Tests.{ltb-true, ne_eqb}
use Rattle.frame.specs.Table.{flag}
use Rattle.protect.specs.declared.Kind.{Kind}
use Rattle.protect.specs.declared.Kind.TheVariants as kind
use Rattle.protect.specs.Said.{long_header, numbered_of}
use Rattle.spaces.specs.Each.{space_for}
use Rattle.gateway.specs.Arguments.{long_kind, numbered_kind, kind_at, kind_number}

pub flag_back : (b : Bool) → eqb (flag b) 1 ≡ b
flag_back true = refl
flag_back false = refl

pub flag_small : (b : Bool) → ltb 1 (flag b) ≡ false
flag_small true = refl
flag_small false = refl

kinds : (k : Kind) → (kind_at (kind_number k) ≡ k) × (long_kind (kind_number k) ≡ long_header k) × (numbered_kind (kind_number k) ≡ numbered_of k)
unfolding kind_at long_kind numbered_kind
kinds kind.Initial = (refl, refl, refl)
kinds kind.ZeroRtt = (refl, refl, refl)
kinds kind.Handshake = (refl, refl, refl)
kinds kind.Retry = (refl, refl, refl)
kinds kind.Short = (refl, refl, refl)
kinds kind.VersionNegotiate = (refl, refl, refl)

pub kind_back : (k : Kind) → kind_at (kind_number k) ≡ k
kind_back k = (kinds k).0

pub long_back : (k : Kind) → long_kind (kind_number k) ≡ long_header k
long_back k = (kinds k).1

pub numbered_back : (k : Kind) → numbered_kind (kind_number k) ≡ numbered_of k
numbered_back k = (kinds k).2

-- past 5 there is no kind, and no space
pub no_space : (k : ℕ) → ltb 5 k ≡ true → space_for (kind_at k) ≡ none
unfolding kind_at
no_space k e =
    let h : 5 < k = ltb-true 5 k e in
    rw (ne_eqb k 0 (omega arith), ne_eqb k 1 (omega arith), ne_eqb k 2 (omega arith), ne_eqb k 3 (omega arith), ne_eqb k 4 (omega arith))

pub ruleset taken = (flag_back, flag_small, kind_back, long_back, numbered_back, no_space)
