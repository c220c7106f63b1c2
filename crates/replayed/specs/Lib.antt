-- The words that the theorems about replay are stated with.
pub mod Shape
pub mod History
