-- What replay keeps, and what it answers.
pub mod Replay
pub mod Near
