pub mod Switching
pub mod Allowing
pub mod Addresses
pub mod Edges
pub mod Typings
pub mod Kept
