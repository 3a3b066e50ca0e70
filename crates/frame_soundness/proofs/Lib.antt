pub mod HeldLaws
pub mod RowLaws
pub mod MoveLaws
pub mod GrowLaws
pub mod ConditionLaws
