-- What the loops keep: no promise of a public call rests on these.
pub mod Bases
pub mod Backs
pub mod Items
pub mod Texts
pub mod Signs
