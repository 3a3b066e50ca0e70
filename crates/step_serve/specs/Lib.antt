pub mod Blank
pub mod Cells
pub mod Elements
pub mod Levels
pub mod Telling
