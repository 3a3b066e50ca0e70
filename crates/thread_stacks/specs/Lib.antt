pub mod Segments
pub mod Stacks
pub mod Running
pub mod Lending
