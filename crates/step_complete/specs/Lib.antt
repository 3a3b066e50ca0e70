pub mod Asked
pub mod Turns
pub mod Condition
