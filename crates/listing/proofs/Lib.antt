-- Laws that the proofs of the functions share.
pub mod Left
pub mod Ways
pub mod Rows
pub mod Room
