-- Laws that the proofs of the functions share, and those of what is put into a slice.
pub mod Loops
pub mod Puts
pub mod Spelled
