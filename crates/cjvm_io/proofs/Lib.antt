pub mod Answered
pub mod CallLemmas
pub mod Gains
pub mod ReadLemmas
