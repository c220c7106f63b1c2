-- Document 01 as definitions, to be read in this order. What follows from them is proved in the crates replayed and survival.
pub mod Answer
pub mod Flash
pub mod Labels
pub mod Message
pub mod Log
pub mod Replay
pub mod Mount
pub mod Services
pub mod Cut
