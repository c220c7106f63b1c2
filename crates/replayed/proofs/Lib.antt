-- Of every accepted replay: the limits, the counts, the shape, the last write and where the strings stand.
pub mod Keeps
pub mod Counts
pub mod Parses
pub mod Fuel
pub mod Judged
pub mod Records
pub mod Line
pub mod Shape
pub mod Last
pub mod Texts
