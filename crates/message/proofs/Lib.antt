-- Laws that the proofs of the functions share.
pub mod Scanned
pub mod Anywhere
