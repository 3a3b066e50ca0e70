pub mod Ready
pub mod Going
pub mod Doing
pub mod Found
pub mod InPlace
pub mod Gliding
