-- For the crates above: `Inside` has that every frame read ends past its start and inside, and so do its parts, `Walks` that
-- repeating the step is the walk, `Inverse` that what an answer says settles it, `Onces` that each public function has only one
-- answer. The others are for this crate's own proofs: `Rules` what the exit of a `?` says, `Scans` where the block scan ends,
-- `Look` and `Arms` the decision over the type.
pub mod Rules
pub mod Scans
pub mod Look
pub mod Arms
pub mod Inside
pub mod Elicits
pub mod Walks
pub mod Inverse
pub mod Onces
