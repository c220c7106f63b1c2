-- Laws of the mount, and what the exported answers can be.
pub mod Laws
pub mod Numbers
pub mod One
pub mod Impostors
