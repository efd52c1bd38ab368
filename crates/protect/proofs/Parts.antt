-- Parts of a packet: from its number offset on, lent, masked and come back; header and payload.
use Prim.Native.Nat.{ℕ, ◌+◌, ◌-◌, ◌<◌, ◌≤◌}
use mathlib.Core.Path.{◌≡◌, refl, sym, ap}
use mathlib.Core.List.{List, [], ◌∷◌, ◌++◌}
use mathlib.Core.Bool.{Bool}
use mathlib.Core.Option.{Option}
use native.Mathlib.Nat.{not-suc-le-zero}
use native.Mathlib.Omega.{arith}
use lib.Bits.{bit_xor}
use lib.ListN.{length, take, drop, set, length-drop, take-append-drop}
use lib.Seq.{take_all}
use borrow.Rule.Slice.PartMut.{mid_of, put_mid}
use Rattle.protect.proofs.Xor.{xor_take}
use Rattle.coding.specs.Bytes.{byte_at}
use Rattle.coding.specs.Places.{part_of}
use Rattle.coding.proofs.Laws.{part_in}
use Rattle.protect.specs.Protection.{xor, xor_at, number_mask, first_mask, masked}
use Rattle.protect.specs.Tests.{number_bytes}
use Rattle.protect.specs.Steps.{header_place, payload_place}

-- the part of n bytes from a place on, lent, masked and come back
pub mask_part : (l last : List ℕ) (at n : ℕ) (ms : List ℕ) → at + n ≤ length l → last ≡ xor ms (mid_of at n l) → put_mid at n l last ≡ xor_at at (take n ms) l
unfolding xor_at
mask_part l last at n ms h e = ap (λ (r : List ℕ). take at l ++ r) (rw e (sym (xor_take n ms (drop at l))))

-- a first byte that was XORed and stored
pub first_stored : (long : Bool) (mask : List ℕ) (at n m : ℕ) (l : List ℕ) → 0 < length l → m ≡ first_mask long (byte_at mask 0)
    → xor_at at (number_mask n mask) (set l 0 (bit_xor (byte_at l 0) m)) ≡ masked long mask at n l
unfolding masked xor_at xor
first_stored long mask at n m [] h e = absurd (not-suc-le-zero h)
first_stored long mask at n m (b ∷ l) h e = rw e

-- the header followed by the payload is the packet
pub joined : (packet : List ℕ) (at : ℕ) (number : Option ℕ) → at + number_bytes number ≤ length packet
    → part_of packet (header_place at number) ++ part_of packet (payload_place at number (length packet)) ≡ packet
joined packet at number h =
    let n : ℕ = at + number_bytes number in
    let t : take (length packet - n) (drop n packet) ≡ drop n packet = take_all (length packet - n) (drop n packet) (simp length-drop (omega arith)) in
    let head : take n packet ≡ part_of packet (header_place at number) = part_in packet (header_place at number) n refl (omega arith) in
    let tail : take (length packet - n) (drop n packet) ≡ part_of packet (payload_place at number (length packet)) =
    part_in packet (payload_place at number (length packet)) (length packet - n) refl (omega arith) in
    rw (← head, ← tail, t) (take-append-drop n packet)
