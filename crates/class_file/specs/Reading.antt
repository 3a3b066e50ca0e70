-- How a file is read, from front to back. What is promised stands in Refused, and in
-- class_format's Meaning.
pub mod Words
pub mod Pools
pub mod Members
pub mod Seen
pub mod Classes
