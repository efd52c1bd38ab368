-- In the order in which to read them.
pub mod TypeBits
pub mod Header
pub mod Split
pub mod Walk
pub mod Inside
pub mod Said
