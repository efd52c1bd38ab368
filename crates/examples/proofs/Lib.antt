-- `Holds` has the one proof of the table.
pub mod Holds
