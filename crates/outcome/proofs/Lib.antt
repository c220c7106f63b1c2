-- Laws of refusals by number and place.
pub mod Back
