pub mod Reading
pub mod Rules
pub mod Whole
pub mod KeptLaws
