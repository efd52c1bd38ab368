-- In the order in which to read them.
pub mod Words
pub mod Refusals
pub mod Bytes
pub mod Places
pub mod Reading
pub mod Writing
pub mod Varint
pub mod Said
pub mod Once
