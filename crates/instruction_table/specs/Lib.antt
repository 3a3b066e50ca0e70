pub mod ClassTypes
pub mod LowestRule
pub mod Needs
pub mod Rows
pub mod Working
pub mod Groups
pub mod Under
