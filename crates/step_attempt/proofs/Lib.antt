pub mod Told
pub mod Nexts
