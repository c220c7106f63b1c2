-- Laws that the proofs of the functions share.
pub mod Loops
pub mod Sizes
pub mod Lent
pub mod Rows
