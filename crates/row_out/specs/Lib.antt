-- In the order in which to read them.
pub mod Writing
pub mod Limits
pub mod Bounds
pub mod Back
