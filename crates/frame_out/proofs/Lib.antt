-- For the crates above: `ReadBack` has that what each encoder wrote is handed out by the step as it was given, and is no longer
-- than its bound besides its data or reason, `Bounds` the latter over the types of a stream frame and of a datagram, `Room` that
-- a close is no longer than its max, `Onces` that each public function has only one answer. `Vals`, what each encoder's code
-- hands on, and `Cuts`, the cases of a close, are for this crate's own proofs.
pub mod Vals
pub mod Cuts
pub mod ReadBack
pub mod Bounds
pub mod Room
pub mod Onces
