pub mod Steps
pub mod Subtypes
pub mod Fields
pub mod ClassLaws
