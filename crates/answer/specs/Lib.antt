-- What a mount answers.
pub mod Mounted
