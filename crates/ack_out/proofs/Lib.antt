-- `Lists`, `Turns`, `Frames` and `Puts` serve the functions' proofs: what the list's rule gives, the loops over the blocks, the
-- frame's bytes and size, the puts. `Blocks`: written blocks are scanned whole; `ReadBack`: what the encoder wrote is read back,
-- range by range. `Onces`: only one answer.
pub mod Blocks
pub mod Lists
pub mod Turns
pub mod Frames
pub mod Puts
pub mod ReadBack
pub mod Onces
