-- `Puts` says what a run of puts needs and does, `Texts` what each step adds to the text, `Bounds` how long the text and a line are at
-- most, `Loops` what a turn of the loop does, which counts the lines or writes them, `Onces` that the dump has only one answer.
pub mod Puts
pub mod Texts
pub mod Bounds
pub mod Loops
pub mod Onces
