-- A dump (01, "The listing program"), to be read in this order.
pub mod Lines
pub mod Dump
pub mod Given
