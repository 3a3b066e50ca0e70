pub mod Bytes
pub mod Lengths
pub mod FormedLaws
pub mod Rooms
pub mod KeyLaws
pub mod Recursion
pub mod FormedClass
