-- Rows computed from the definitions.
pub mod Shown
pub mod Rows
pub mod Steps
