pub mod Classes
pub mod Histories
pub mod Running
