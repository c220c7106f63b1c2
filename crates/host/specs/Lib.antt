-- The answers of the exported services, as document 01 has them.
pub mod Host
