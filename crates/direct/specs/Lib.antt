-- Where the runs of extents begin in the contents, and a read from there.
pub mod Begins
pub mod Direct
