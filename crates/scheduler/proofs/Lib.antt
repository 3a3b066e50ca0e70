pub mod Runs
pub mod Printing
pub mod Breaks
pub mod Within
pub mod Refusals
pub mod Turns
pub mod Limits
