pub mod Positions
pub mod BootAbove
pub mod Above
