-- In the order in which to read them.
pub mod Frames
pub mod Closes
pub mod Bounds
pub mod Said
