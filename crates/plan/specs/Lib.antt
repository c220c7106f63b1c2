-- What the plan's functions ask of a place, and what `select` answers.
pub mod Ask
pub mod Select
