-- The array of records as a list of files, and the shifts of its keys and slots.
pub mod Shift
pub mod Tree
pub mod Judge
