pub mod Decoding
pub mod Framing
