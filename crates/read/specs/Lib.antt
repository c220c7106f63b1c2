-- The bytes of a file as pieces.
pub mod Pieces
