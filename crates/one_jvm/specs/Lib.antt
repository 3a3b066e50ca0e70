pub mod Answers
pub mod Outcomes
pub mod Replays
pub mod Runs
pub mod Steps
pub mod Verdicts
pub mod Words
