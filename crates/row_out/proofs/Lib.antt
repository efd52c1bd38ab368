-- For the crates above: `Laws` has the laws of the limits and of integers one after the other, `RoundCount` how many rounds of
-- ACK blocks they make, `ReadBack` that what is written by a row is read back by it, `Bounds` that it is no longer than the row's
-- bound, besides its data, `Onces` that each public function has only one answer. `InPart` is for `ReadBack`: what is read in a
-- part is read in the whole.
pub mod Laws
pub mod RoundCount
pub mod InPart
pub mod Bounds
pub mod ReadBack
pub mod Onces
