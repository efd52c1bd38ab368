-- For the crates above: `Laws` has the laws of numbers in decimal, `Puts` how a text is put piece by piece,
-- `Onces` that each public function has only one answer. `Steps` is for this crate's own loops.
pub mod Laws
pub mod Puts
pub mod Steps
pub mod Onces
