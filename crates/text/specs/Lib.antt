-- The pieces of a line of text (01, "The listing program"), and what is put into a lent slice.
pub mod Piece
pub mod Put
