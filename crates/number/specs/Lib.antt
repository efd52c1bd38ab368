-- In the order in which to read them.
pub mod Cutting
pub mod Expanding
pub mod Ends
pub mod Line
pub mod Said
