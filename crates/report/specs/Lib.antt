-- The lines of the program `room`.
pub mod Lines
