-- What the code's own steps leave, and demand 3 of them.
pub mod Room
pub mod Each
pub mod Demand
