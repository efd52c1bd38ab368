-- What a frame is made of, and how a run of fields is read: RFC 9000, sections 12.4, 16 and 19.
use Rattle.std.specs.Prelude.{ℕ, ◌-◌, ◌/◌, ◌%◌, List, [], ◌∷◌, Bool, length, ltb, eqb, if◌then◌else◌}
use Rattle.coding.specs.Words.{Got, cut, got, and_then, Answer, no, ok}
use Rattle.coding.specs.Reading.{fixed_at, take_at}
use Rattle.coding.specs.Varint.{var_at}
use Rattle.coding.specs.declared.Place.{Place}
use Rattle.shared.specs.Cid.{max_cid}
use Rattle.ack.specs.Scan.{scan_at}

-- what a frame says: a number, a place in the payload, or that nothing is there
pub data Value : Type 0 where
  num : ℕ → Value
  place : Place → Value
  none : Value

-- a frame: its name, which is the first type of its row, and its values in the row's order
pub data Said : Type 0 where
  said : ℕ → List Value → Said

pub data Field : Type 0 where
  var : Field  -- an integer
  or_none : Field  -- an integer, of which 0 says that nothing is there
  at_most : Field  -- an integer that may not be above the one before it
  bytes : Field  -- a length, and so many bytes
  rest : Field  -- all that is left
  fixed : ℕ → Field  -- so many bytes
  num64 : Field  -- eight bytes, a number
  cid : Field  -- a length byte of 1 to 20, and so many bytes
  ack_blocks : Field  -- a count, and the ACK blocks of so many rounds, below the number read two fields before
  const : ℕ → Field  -- no byte: a number that the type itself says
  absent : Field  -- no byte: nothing is there

-- what is read: a value and the place past it, or a refusal's number
pub data Read (A : Type 0) : Type 0 where
  done : A → ℕ → Read A
  refuse : ℕ → Read A

-- one read after the other: a refusal is passed on
unfoldable pub then_read : {A B : Type 0} → Read A → (A → ℕ → Read B) → Read B
then_read (done a n) next = next a n
then_read (refuse k) next = refuse k

-- ---- fields

-- a length and so many bytes; all that is left
unfoldable pub bytes_at : List ℕ → ℕ → Got Place
bytes_at s at = and_then (var_at s at) cut (λ n p. take_at n s p)

unfoldable pub all_left_at : List ℕ → ℕ → Got Place
all_left_at s at = take_at (length s - at) s at

-- a length byte of 1 to 20, and so many bytes
unfoldable pub cid_at : List ℕ → ℕ → Read Place
cid_at s at =
    and_then (fixed_at 1 s at) (refuse 10) (λ l p.
    if eqb l 0 then refuse 12 else
    if ltb max_cid l then refuse 12 else
    and_then (take_at l s p) (refuse 10) (λ id n. done id n))

-- the place between two, the second of which a scan answers
unfoldable pub up_to : ℕ → Answer ℕ → Read Place
up_to p (ok n) = done (record { start = p; len = n - p }) n
up_to p (no k) = refuse k

-- a count, and the blocks
unfoldable pub blocks_at : List ℕ → ℕ → ℕ → Read Place
blocks_at s at largest = and_then (var_at s at) (refuse 10) (λ count p. up_to p (scan_at s p largest count))

-- 0 says that nothing is there
unfoldable pub or_nothing : ℕ → Value
or_nothing n = if eqb n 0 then none else num n

-- ---- a run of fields

-- the number read last, and the one before it
abbrev pub last_read : List Value → ℕ
last_read [] = 0
last_read (num n ∷ vs) = n
last_read (place p ∷ vs) = 0
last_read (none ∷ vs) = 0

abbrev pub last_but_one : List Value → ℕ
last_but_one [] = 0
last_but_one (v ∷ vs) = last_read vs

-- one field at a place, after the values `seen` (the last one first); then `next` of its value and of the place past it
unfoldable pub field_at : Field → List ℕ → ℕ → List Value → (Value → ℕ → Read Said) → Read Said
field_at var s at seen next = and_then (var_at s at) (refuse 10) (λ v n. next (num v) n)
field_at or_none s at seen next = and_then (var_at s at) (refuse 10) (λ v n. next (or_nothing v) n)
field_at at_most s at seen next = and_then (var_at s at) (refuse 10) (λ v n. if ltb (last_read seen) v then refuse 12 else next (num v) n)
field_at bytes s at seen next = and_then (bytes_at s at) (refuse 10) (λ p n. next (place p) n)
field_at rest s at seen next = and_then (all_left_at s at) (refuse 10) (λ p n. next (place p) n)
field_at (fixed w) s at seen next = and_then (take_at w s at) (refuse 10) (λ p n. next (place p) n)
field_at num64 s at seen next = and_then (fixed_at 8 s at) (refuse 10) (λ v n. next (num v) n)
field_at cid s at seen next = then_read (cid_at s at) (λ p n. next (place p) n)
field_at ack_blocks s at seen next = then_read (blocks_at s at (last_but_one seen)) (λ p n. next (place p) n)
field_at (const v) s at seen next = next (num v) at
field_at absent s at seen next = next none at

-- the values, first one first
abbrev pub in_order : List Value → List Value → List Value
in_order [] vs = vs
in_order (v ∷ seen) vs = in_order seen (v ∷ vs)

-- the fields in a row's order
unfoldable pub fields_at : ℕ → List Field → List ℕ → ℕ → List Value → Read Said
fields_at name [] s at seen = done (said name (in_order seen [])) at
fields_at name (f ∷ fs) s at seen = field_at f s at seen (λ v n. fields_at name fs s n (v ∷ seen))

-- ---- what goes by a bit of the type

abbrev pub bit : ℕ → ℕ → Bool
bit b t = eqb (t / b % 2) 1

-- an integer, or 0 where it is not there; bytes with a length, or all that is left where there is none
unfoldable pub var_if : Bool → List ℕ → ℕ → Got ℕ
var_if there s at = if there then var_at s at else got 0 at

unfoldable pub data_if : Bool → List ℕ → ℕ → Got Place
data_if there s at = if there then bytes_at s at else all_left_at s at
