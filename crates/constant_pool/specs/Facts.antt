-- What is found out once about the texts of a pool, so that they can be asked fast.
pub mod Kinds
pub mod Ranks
