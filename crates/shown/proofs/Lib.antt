-- Laws of the mount.
pub mod Lines
pub mod Order
pub mod Mounts
