-- `Taken`, `Answered` and `HeaderWrites` serve the functions' proofs. `Stands` has where the connection ids of a header stand; `SplitBack`,
-- `UnmaskBack`, `WrittenBack` and `NumbersBack` prove what the records give back (specs/GivesBack). `Whole`: what header_write stores is what
-- encode writes and the Length step sets. `Onces`: each public function has only one answer.
pub mod Taken
pub mod Answered
pub mod HeaderWrites
pub mod Whole
pub mod Stands
pub mod SplitBack
pub mod WrittenBack
pub mod NumbersBack
pub mod UnmaskBack
pub mod Onces
