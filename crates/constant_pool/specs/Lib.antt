pub mod Items
pub mod Links
pub mod Facts
