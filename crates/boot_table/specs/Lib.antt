pub mod Rows
pub mod Table
pub mod Files
pub mod Seen
pub mod Sizes
pub mod Intrinsics
pub mod Decoding
