pub mod WalkedLaws
pub mod OwnedLaws
pub mod OwnedBuilt
pub mod ItemLaws
pub mod SignLaws
pub mod TextLaws
pub mod AddedLaws
