-- In the order in which to read them.
pub mod Scan
pub mod Step
pub mod Said
