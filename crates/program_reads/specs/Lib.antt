pub mod Whole
pub mod Finding
pub mod Kept
pub mod Past
