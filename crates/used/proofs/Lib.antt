-- Laws of specs/, and what the code is told.
pub mod Needed
pub mod Bits
pub mod Touch
pub mod Masks
pub mod Erasable
