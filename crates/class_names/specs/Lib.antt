pub mod Known
pub mod Texts
pub mod Classes
pub mod Named
pub mod Seen
