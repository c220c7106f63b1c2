-- The listing (01, "The listing program"): its lines, the whole, and what is written into a buffer.
pub mod Lines
pub mod Listing
pub mod Wrote
