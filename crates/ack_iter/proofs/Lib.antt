-- For the crates above: `Ranges` has that the reader hands out the scan's ranges, `Onces` that each public function has only one answer.
pub mod Ranges
pub mod Onces
