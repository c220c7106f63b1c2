-- A refusal by its number and place.
pub mod Outcome
