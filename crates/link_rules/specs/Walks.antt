-- The rules place by place, as the checks go: no promise of a public call rests on these.
pub mod Spelled
pub mod Missing
pub mod Kinds
