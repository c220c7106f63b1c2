-- Laws that the proofs of the functions share.
pub mod Sure
pub mod Answered
pub mod Scanned
pub mod Paths
pub mod Said
pub mod Older
pub mod Noted
pub mod Passed
