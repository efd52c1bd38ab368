-- Header protection: RFC 9001, 5.4.1.
use Rattle.std.specs.Prelude.{ℕ, ◌%◌, List, [], ◌∷◌, ◌++◌, Bool, true, false, take, drop}
use Rattle.std.specs.Int.Bits.{bit_xor}
use Rattle.coding.specs.Bytes.{byte_at}
use Rattle.number.specs.Cutting.{tag_length}

-- l with the bytes ms XORed over its first ones
unfoldable pub xor : List ℕ → List ℕ → List ℕ
xor [] l = l
xor (m ∷ ms) [] = []
xor (m ∷ ms) (b ∷ l) = bit_xor b m ∷ xor ms l

-- the same over those from a place on
unfoldable pub xor_at : ℕ → List ℕ → List ℕ → List ℕ
xor_at at ms l = take at l ++ xor ms (drop at l)

-- of the mask's first byte m: four bits are masked in a long header, five in a short one
abbrev pub first_mask : Bool → ℕ → ℕ
first_mask true m = m % 16
first_mask false m = m % 32

-- the mask's n bytes for a number of n bytes
abbrev pub number_mask : ℕ → List ℕ → List ℕ
number_mask n mask = take n (drop 1 mask)

-- the packet with the mask over its first byte, and then over the n bytes from the number offset on
unfoldable pub masked : Bool → List ℕ → ℕ → ℕ → List ℕ → List ℕ
masked long mask at n packet = xor_at at (number_mask n mask) (xor_at 0 (first_mask long (byte_at mask 0) ∷ []) packet)

-- applied, the number's length is read from the first byte before it is masked
unfoldable pub applied : Bool → List ℕ → ℕ → List ℕ → List ℕ
applied long mask at packet = masked long mask at (tag_length (byte_at packet 0)) packet

-- removed, from the first byte without its mask
unfoldable pub removed : Bool → List ℕ → ℕ → List ℕ → List ℕ
removed long mask at packet = masked long mask at (tag_length (bit_xor (byte_at packet 0) (first_mask long (byte_at mask 0)))) packet
