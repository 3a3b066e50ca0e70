pub mod Lists
pub mod First
pub mod OverLaws
pub mod KindLaws
pub mod MarkLaws
pub mod PastLaws
