-- What a read answers.
pub mod File
