-- Laws that the proofs of the functions share.
pub mod Part
pub mod Place
pub mod Written
pub mod Whole
