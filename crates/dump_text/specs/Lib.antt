-- In the order in which to read them.
pub mod Dump
pub mod Turns
