pub mod Condition
pub mod Shown
pub mod Depth
pub mod Texts
pub mod Arguments
pub mod Tops
pub mod Ways
