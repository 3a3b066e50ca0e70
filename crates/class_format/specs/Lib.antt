pub mod Versions
pub mod Flags
pub mod KnownTexts
pub mod Members
pub mod Spelling
pub mod Meaning
pub mod Judging
