-- What an image may lose and still show the same.
pub mod Live
pub mod LogFacts
pub mod Survive
pub mod Relabel
pub mod Enough
