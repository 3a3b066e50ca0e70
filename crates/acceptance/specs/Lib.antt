pub mod Accepted
pub mod Linked
