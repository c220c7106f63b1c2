-- What a mount shows, as the code answers it.
pub mod Shown
