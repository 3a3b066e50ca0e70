pub mod QueueLaws
pub mod RunLaws
