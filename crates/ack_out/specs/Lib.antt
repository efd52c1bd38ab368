-- In the order in which to read them.
pub mod Acks
pub mod Said
