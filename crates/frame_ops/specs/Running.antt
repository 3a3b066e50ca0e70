-- How the code goes about a step. No promise of a call rests on these.
pub mod Families
pub mod Places
