pub mod Parts
pub mod Orderly
pub mod Looks
pub mod Making
pub mod Stored
pub mod First
