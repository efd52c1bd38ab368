-- For the crates above: `Onces` has that each public function has only one answer, `Told` that what is wrong with an input is told.
-- `Laws` is for this crate's own proofs.
pub mod Laws
pub mod Told
pub mod Onces
