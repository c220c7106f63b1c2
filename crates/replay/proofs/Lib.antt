-- Laws of replay: the rest of the log told to a tree, the tree and its rows kept in order, and each turn.
pub mod Onward
pub mod Holds
pub mod Turns
pub mod Moves
