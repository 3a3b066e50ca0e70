mod Examples
pub mod AlikeLaws
pub mod ImageLaws
pub mod MemberLaws
pub mod NameLaws
pub mod PackageLaws
pub mod Rows
pub mod Signatures
pub mod SubLaws
pub mod Upwards
