-- For the crates above: `Rules` has the lists of lemmas for a `search` at a return, `Writes` what a run of puts keeps,
-- `Laws` the laws of the definitions, `Shift` that an integer is read in a part as in the whole, `Back` that what is written is read back, `Numbers` that a number tells a refusal apart and is not 0,
-- `Inverse` that what an answer says settles it, `Onces` that each public function has only one answer. `Bits` is for this crate's own sizes, `Steps` for its loops.
pub mod Rules
pub mod Laws
pub mod Bits
pub mod Shift
pub mod Steps
pub mod Writes
pub mod Back
pub mod Numbers
pub mod Inverse
pub mod Onces
