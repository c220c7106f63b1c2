-- Extents on the line; rows and their extents; the laws that callers use; the parts that the code puts together; the search by halves.
pub mod Line
pub mod Rows
pub mod Laws
pub mod Moves
pub mod Parts
pub mod Halves
