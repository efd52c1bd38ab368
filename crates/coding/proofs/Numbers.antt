-- A refusal's number tells it apart from all others, and from 0, which is none.
use mathlib.Core.Path.{◌≡◌, refl, sym, ap, ◌∙◌}
use Prim.Native.Nat.{ℕ}
use native.Mathlib.Omega.{arith}
use mathlib.Core.Bool.{cond}
use lib.Dec.{eqb}
use Rattle.coding.specs.Words.{Answer, no, ok}
use Rattle.coding.specs.Refusals.{number_of, NineUnused}
use Rattle.coding.specs.declared.refusal.Refusal.{Refusal}
use Rattle.coding.specs.declared.refusal.Refusal.TheVariants as ref

-- the refusal of a number
abbrev pub refusal_of : ℕ → Refusal
refusal_of n =
    cond (eqb n 1) ref.PacketEnd
    (cond (eqb n 2) ref.FixedBit
    (cond (eqb n 3) ref.Cid
    (cond (eqb n 4) ref.Version
    (cond (eqb n 5) ref.Token
    (cond (eqb n 6) ref.ShortCid
    (cond (eqb n 7) ref.Length
    (cond (eqb n 8) ref.Sample
    (cond (eqb n 10) ref.UnexpectedEnd
    (cond (eqb n 11) ref.InvalidFrameId
    (cond (eqb n 12) ref.Malformed
    (cond (eqb n 13) ref.NoFrames
    (cond (eqb n 14) ref.Argument
    (cond (eqb n 15) ref.Room ref.TooFar)))))))))))))

pub refusal_back : (r : Refusal) → refusal_of (number_of r) ≡ r
refusal_back ref.PacketEnd = refl
refusal_back ref.FixedBit = refl
refusal_back ref.Cid = refl
refusal_back ref.Version = refl
refusal_back ref.Token = refl
refusal_back ref.ShortCid = refl
refusal_back ref.Length = refl
refusal_back ref.Sample = refl
refusal_back ref.UnexpectedEnd = refl
refusal_back ref.InvalidFrameId = refl
refusal_back ref.Malformed = refl
refusal_back ref.NoFrames = refl
refusal_back ref.Argument = refl
refusal_back ref.Room = refl
refusal_back ref.TooFar = refl

pub one_refusal : (r s : Refusal) → number_of r ≡ number_of s → r ≡ s
one_refusal r s e = sym (refusal_back r) ∙ ap refusal_of e ∙ refusal_back s

-- 9 is the number of none: the refusal of 9 would be that of 16
pub nine_unused : NineUnused
nine_unused r e =
    let last : r ≡ ref.TooFar = sym (refusal_back r) ∙ ap refusal_of e in
    omega (arith, sym e ∙ ap number_of last)

-- an answer that is a value, or a refusal with a number that is not 0
abbrev pub Refuses : {A : Type 0} → Answer A → Type 0
Refuses (ok a) = Unit
Refuses (no k) = k ≡ 0 → ⊥

pub fourteen : ◌≡◌ {A = ℕ} 14 0 → ⊥
fourteen z = omega (arith, z)
