pub mod Asking
pub mod Answering
pub mod Needing
pub mod Going
pub mod Stepped
pub mod Following
