-- What an image keeps beside the program: no promise of a call rests on these.
pub mod Ancestry
pub mod Image
pub mod Members
pub mod Alike
pub mod Packages
pub mod Signs
