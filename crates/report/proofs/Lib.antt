-- Laws that the proofs of the functions share, and rows.
pub mod Ways
pub mod Rows
