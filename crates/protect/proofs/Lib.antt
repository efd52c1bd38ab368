pub mod Xor
pub mod Parts
pub mod Inside
pub mod Cases
pub mod Back
pub mod Inverse
pub mod Onces
