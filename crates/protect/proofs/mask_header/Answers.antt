use Rattle.std.proofs.Common.{ℕ, List, ◌≡◌, ◌-◌, ◌≤◌, length, set, ap, ◌∙◌, arith, length-set, length-take, length-drop}
use lib.Seq.{take_all}
use Rattle.protect.specs.Protection.{xor_at, number_mask}
use Rattle.protect.proofs.Parts.{mask_part}
use Rattle.protect.proofs.mask_header.Goals as goal

pub mask_number-requires : goal.mask_number-requires
mask_number-requires c = (c.requires.0, simp (length-take, length-drop, length-set) (omega (arith, c.requires.1)))

pub returns : goal.returns
returns c =
    let a = c.args in
    let l : List ℕ = set a.packet.now 0 a.first in
    let ms : List ℕ = number_mask a.n a.mask in
    let k : ℕ = length l - a.number_offset in
    let s : length l ≡ length a.packet.now = length-set _ _ _ in
    let h : length ms ≤ k = simp length-take (omega arith) in
    mask_part l _ a.number_offset k ms (omega arith) c.mask_number.ensures ∙ ap (λ (x : List ℕ). xor_at a.number_offset x l) (take_all k ms h)
