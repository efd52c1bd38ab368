-- In the order in which to read them.
pub mod Arguments
pub mod Packets
pub mod Numbers
pub mod Headers
pub mod GivesBack
