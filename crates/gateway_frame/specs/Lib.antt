-- In the order in which to read them.
pub mod Spans
pub mod Frames
pub mod GivesBack
