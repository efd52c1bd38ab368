-- `Count` has where the counts start, `Onces` that each public function has only one answer.
pub mod Count
pub mod Onces
