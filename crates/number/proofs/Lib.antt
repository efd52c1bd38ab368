-- In the order in which they rest on each other.
pub mod Windows
pub mod Firsts
pub mod Cuts
pub mod Readings
pub mod Calls
pub mod Ceiling
pub mod Refusing
pub mod Delivery
pub mod Going
pub mod BothWays
pub mod Inverse
pub mod Onces
