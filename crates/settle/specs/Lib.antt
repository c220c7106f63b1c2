-- What a settle answers, and steps done one by one.
pub mod Settled
