pub mod Firsts
pub mod MissingLaw
pub mod SpelledForms
pub mod SpelledOps
pub mod MarkLaws
pub mod KnownLaws
pub mod KindLaws
