-- The list part by part, document 01's reclaim by what a mount shows, and demand 3 of the code's answers.
pub mod Lists
pub mod Reclaims
pub mod Demand
