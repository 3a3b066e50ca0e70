pub mod Parsed
pub mod Taken
pub mod Rows
