-- What frame.rs says of a frame that is at hand: the type that stands for it, and whether it elicits an acknowledgement.
use Rattle.std.specs.Prelude.{ℕ, zero, suc, ◌+◌, List, [], ◌∷◌, Bool, true, false, eqb, if◌then◌else◌}
use Rattle.frame.specs.Format.{Value, num, place, none, Said, said}

-- the number among a frame's values at an index
abbrev pub num_of : Value → ℕ
num_of (num n) = n
num_of (place p) = 0
num_of none = 0

abbrev pub nth : List Value → ℕ → Value
nth [] i = none
nth (v ∷ vs) zero = v
nth (v ∷ vs) (suc i) = nth vs i

abbrev pub num_at : List Value → ℕ → ℕ
num_at vs i = num_of (nth vs i)

-- the first type of its row; of a stream with the bits of fin and of an offset that is not 0, of a count with its way
unfoldable pub frame_type_of : Said → ℕ
frame_type_of (said name vs) =
    if eqb name 0x08 then 0x08 + num_at vs 2 + (if eqb (num_at vs 1) 0 then 0 else 4) else
    if eqb name 0x12 then 0x12 + num_at vs 0 else
    if eqb name 0x16 then 0x16 + num_at vs 0 else
    name

-- all but PADDING, ACK and the two closes
unfoldable pub ack_eliciting : Said → Bool
ack_eliciting (said name vs) =
    if eqb name 0x00 then false else
    if eqb name 0x02 then false else
    if eqb name 0x1c then false else
    if eqb name 0x1d then false else
    true
