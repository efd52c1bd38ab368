-- In the order in which to read them.
pub mod Records
pub mod Lines
pub mod Said
pub mod Stdio
pub mod Out
