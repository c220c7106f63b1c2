-- Laws that the proofs of the functions share.
pub mod Told
pub mod Copies
pub mod Shared
pub mod Lowest
pub mod Numbers
pub mod Runs
pub mod Chosen
pub mod One
