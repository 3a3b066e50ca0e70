-- How the judge goes about it, part by part. What is promised stands in Meaning.
pub mod Formed
pub mod Keys
