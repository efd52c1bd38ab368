-- `Laws` is for this crate's own proofs; `Back` says what the records give back, `Onces` that each function has only one answer.
pub mod Laws
pub mod Back
pub mod Onces
