-- In the order in which to read them.
pub mod Encoding
pub mod Length
pub mod Before
pub mod Back
pub mod Said
