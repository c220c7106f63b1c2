-- What the definitions of document 01 are written with.
pub mod Choice
pub mod Scan
pub mod Member
