-- Laws of steps in numbers.
pub mod Laws
