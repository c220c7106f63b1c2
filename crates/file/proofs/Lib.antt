-- Laws of the read.
pub mod Files
