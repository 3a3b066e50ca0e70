-- The laws of every step, as statements.
pub mod Framing
pub mod KeptBodies
pub mod Likeness
pub mod Locality
