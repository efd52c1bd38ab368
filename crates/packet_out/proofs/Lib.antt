-- `Laws`, `Standard` and `WholePut` serve the functions' proofs; `Inverse` and `Onces`: each public function has only one answer.
-- `Fields` and `HeaderBack`: a written header is read back, over any table of types; `EncodedBack`: so is what encode writes.
-- `LengthAndMask` and `WholeWay`: the whole way, from encode to finish. `BeforePayload`: the header before a payload, over lent
-- connection ids.
pub mod Laws
pub mod Standard
pub mod WholePut
pub mod Inverse
pub mod Onces
pub mod Fields
pub mod HeaderBack
pub mod EncodedBack
pub mod LengthAndMask
pub mod BeforePayload
pub mod WholeWay
