-- Laws of specs/: what is ahead of a cursor, turn by turn.
pub mod Joins
pub mod Sizes
pub mod Planned
pub mod Paged
pub mod Ranges
pub mod Ahead
pub mod Told
pub mod Blank
