-- Laws of the direct read.
pub mod Lays
pub mod Begun
pub mod Places
pub mod Draws
pub mod Same
pub mod Stand
pub mod Mounts
