-- What one step answers, and what it leaves.
pub mod Done
