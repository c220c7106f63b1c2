-- Lists put into lists; lists of slots; the parts after each function; the laws that callers use.
pub mod Lists
pub mod Slots
pub mod Moves
pub mod Laws
