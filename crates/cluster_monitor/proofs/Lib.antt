pub mod OwnerLaws
pub mod QueueLaws
