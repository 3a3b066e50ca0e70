-- How the code sees the table: no promise of a public call rests on these.
pub mod Descs
pub mod Kinds
