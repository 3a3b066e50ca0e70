-- How frames rise until none does: no promise of a public call rests on these.
pub mod Ranges
pub mod Flowing
pub mod Leading
pub mod HandlerTrees
pub mod Catching
pub mod Going
pub mod Potential
