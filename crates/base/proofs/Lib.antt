-- Laws of specs/.
pub mod Tests
pub mod Lists
pub mod Scans
pub mod Choices
pub mod Ways
