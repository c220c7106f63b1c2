-- Laws that the proofs of the functions share.
pub mod Bytes
pub mod Stretch
pub mod Address
pub mod Runs
pub mod Draws
pub mod Copies
