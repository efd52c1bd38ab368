-- In the order in which they rest on each other.
pub mod Inverse
pub mod Lifts
pub mod Puts
pub mod Order
pub mod Views
pub mod Runs
pub mod Onces
