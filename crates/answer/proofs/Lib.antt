-- Laws of the answer.
pub mod Laws
