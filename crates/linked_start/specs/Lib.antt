pub mod Linking
pub mod Premises
pub mod Coding
