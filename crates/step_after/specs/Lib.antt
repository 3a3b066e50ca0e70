pub mod Conditions
pub mod Going
pub mod Laws
