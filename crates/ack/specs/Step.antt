-- One step of the reader of an ACK frame's ranges, over the bytes of the blocks: document 01, "Frames".
use Rattle.std.specs.Prelude.{ℕ, zero, suc, ◌+◌, ◌-◌, List, [], ◌∷◌, length, ltb, leb, if◌then◌else◌}
use Rattle.coding.specs.Words.{and_then, number_end, max_datagram}
use Rattle.coding.specs.Varint.{var_at}
use Rattle.ack.specs.Scan.{Range}

-- what a step says: a range; that no byte is left; or a refusal's number
pub data Step : Type 0 where
  range : Range → Step
  end : Step
  refused : ℕ → Step

-- and where the reader then stands: the largest number of the range to come, and its place
pub record Taken : Type 0 where
  pub step : Step
  pub largest : ℕ
  pub next : ℕ

-- a refused step leaves the reader as it was
unfoldable pub unmoved : ℕ → ℕ → ℕ → Taken
unmoved number at largest = record { step = refused number; largest = largest; next = at }

-- a block and, if bytes are left, the gap after it and a byte of the next block; the scan's order
unfoldable pub ack_step : List ℕ → ℕ → ℕ → Taken
ack_step s at largest =
    if ltb max_datagram (length s) then unmoved 14 at largest else
    if leb number_end largest then unmoved 14 at largest else
    if leb (length s) at then record { step = end; largest = largest; next = at } else
    and_then (var_at s at) (unmoved 10 at largest) (λ block mid.
    if ltb largest block then unmoved 12 at largest else
    if leb (length s) mid then record { step = range (record { smallest = largest - block; largest = largest }); largest = largest; next = mid } else
    and_then (var_at s mid) (unmoved 10 at largest) (λ gap next.
    if ltb (largest - block) (gap + 2) then unmoved 12 at largest else
    if leb (length s) next then unmoved 10 at largest else
    record { step = range (record { smallest = largest - block; largest = largest }); largest = largest - block - (gap + 2); next = next }))

-- after the end and after a refusal there is nothing more
unfoldable pub go_on : Step → List Step → List Step
go_on (range r) more = range r ∷ more
go_on end more = end ∷ []
go_on (refused k) more = refused k ∷ []

-- what up to n steps say, one after the other
unfoldable pub stepping : ℕ → List ℕ → ℕ → ℕ → List Step
stepping zero s at largest = []
stepping (suc n) s at largest =
    let t = ack_step s at largest in
    go_on t.step (stepping n s t.next t.largest)
