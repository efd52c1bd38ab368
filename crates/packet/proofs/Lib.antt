-- For the crates above: `Cases` has what a proof cites of the definitions and the library, `Types` the tables of types with their
-- inverses, by the version, `Ways` that a law of every way in which a header is read holds of what is said of it, `Within` that a header
-- lies within its bytes, `Unlisted` that 4 is given only where the version is not listed, and not 0, `Same` which bits are read at all,
-- `Splits` that packet and rest lie inside the datagram and make it, `Walks` that the walk's packets lie in line and cover it and that
-- repeating the step is the walk, `Inverse` that what an answer says settles it, `Onces` that each public function has only one answer.
pub mod Cases
pub mod Types
pub mod Ways
pub mod Within
pub mod Unlisted
pub mod Same
pub mod Splits
pub mod Walks
pub mod Inverse
pub mod Onces
