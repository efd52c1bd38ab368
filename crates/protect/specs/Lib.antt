-- In the order in which to read them.
pub mod Protection
pub mod Tests
pub mod Steps
pub mod Inside
pub mod Said
