-- Laws that the proofs of the functions share.
pub mod Lists
pub mod Whole
