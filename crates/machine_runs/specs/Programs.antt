-- Programs by subject, each with its source above it.
pub mod Objects
pub mod Calls
pub mod Values
pub mod Initialising
pub mod Threads
