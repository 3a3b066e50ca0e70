pub mod Numbered
pub mod Methods
