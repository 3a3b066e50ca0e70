pub mod LevelGrowth
pub mod HeapLaws
pub mod ServeLaws
pub mod ArrayLaws
pub mod BlockLaws
pub mod StateLaws
pub mod StartLaws
