pub mod Tables
pub mod Primitives
pub mod Tree
pub mod Types
pub mod TypeRank
pub mod TypeLists
pub mod Frames
pub mod FrameRank
