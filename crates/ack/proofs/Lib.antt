-- For the crates above: `Laws` has the laws of the scan, `Ranges` that stepping hands out the scan's ranges,
-- `Inverse` that what an answer says settles it, `Onces` that each public function has only one answer, `Tries` what a function
-- with a `?` has of the call before it and at its exit.
pub mod Tries
pub mod Laws
pub mod Ranges
pub mod Inverse
pub mod Onces
