-- What a turn answers, and what is ahead of a cursor.
pub mod Turn
pub mod Cursor
pub mod Point
