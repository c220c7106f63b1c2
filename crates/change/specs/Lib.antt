-- What a message does to a file, and to the rows of the files.
pub mod Edit
pub mod Room
