-- In the order in which to read them.
pub mod FirstByte
pub mod Cid
pub mod Ecn
pub mod Streams
pub mod Said
