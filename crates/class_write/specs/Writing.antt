-- What is written step by step. What is promised stands in class_format's Meaning.
pub mod Parts
pub mod Written
