pub mod WaiterLaws
pub mod ThreadLaws
pub mod HeapLaws
pub mod MakingLaws
pub mod StoredLaws
pub mod StartLaws
pub mod MadeNames
pub mod Orders
