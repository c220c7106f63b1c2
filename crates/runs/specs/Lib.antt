-- The extents of all files, rows by file.
pub mod Runs
