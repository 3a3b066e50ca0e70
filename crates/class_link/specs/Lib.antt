pub mod Linked
pub mod Mains
pub mod Natives
pub mod Refusals
