pub mod LoopLaws
pub mod RowLaws
pub mod SuperLaws
mod DeclaredLaws
mod NearLaws
mod DeclaredWalks
pub mod ToldLaws
pub mod SignLaws
mod PackageLaws
