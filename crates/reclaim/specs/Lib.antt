-- What a reclaim answers.
pub mod Reclaimed
