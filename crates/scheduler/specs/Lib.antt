pub mod Running
pub mod Progress
