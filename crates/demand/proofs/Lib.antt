-- Demand 3 on the lent slices.
pub mod Bytes
pub mod Blocks
pub mod Cuts
pub mod Runs
pub mod Shown
pub mod Settle
pub mod Reclaim
pub mod Demand
