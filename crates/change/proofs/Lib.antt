-- Laws of the changes: against document 01's step, and of the rows.
pub mod Steps
pub mod Rooms
