-- Absent data, used pages and the erase list, as the code answers them.
pub mod Needed
pub mod Bits
pub mod Erase
