pub mod Seen
pub mod Arrays
pub mod Sets
pub mod ArrayClasses
pub mod Counting
pub mod Literals
pub mod Marks
