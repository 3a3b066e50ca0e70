pub mod Methods
pub mod Given
pub mod Typing
pub mod Reasons
pub mod Worklist
