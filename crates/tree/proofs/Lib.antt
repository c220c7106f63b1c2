-- Laws of the shifts, of the tree and of the verdicts. Laws is for those who hold a Tree, Judged for those who judge a message.
pub mod Shifts
pub mod Search
pub mod Slots
pub mod Positions
pub mod Laws
pub mod Judged
