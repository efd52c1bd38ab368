-- In the order in which to read them.
pub mod Format
pub mod Table
pub mod Types
pub mod Walk
pub mod Inside
pub mod Said
