-- Rows of extents, what a run laid over them asks, and the search among them.
pub mod Rows
pub mod Halves
