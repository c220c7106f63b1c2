-- Laws of a table of records.
pub mod Lists
pub mod Filled
