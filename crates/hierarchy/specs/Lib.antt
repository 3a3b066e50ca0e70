pub mod Closure
pub mod Hierarchy
pub mod Joined
pub mod Loops
pub mod Steps
pub mod Walks
