-- A step in numbers.
pub mod Action
