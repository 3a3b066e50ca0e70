pub mod SameTexts
pub mod Filled
pub mod RankLaws
