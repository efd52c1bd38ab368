-- For the crates above: `Laws` has the laws of the definitions, `Back` that what is written is read back, `Inverse` that what a
-- value says settles it, `Onces` that each public function has only one answer.
pub mod Laws
pub mod Back
pub mod Inverse
pub mod Onces
