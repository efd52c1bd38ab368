-- `Onces`: each exported function has only one answer.
pub mod Onces
