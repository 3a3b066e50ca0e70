pub mod Falling
pub mod BootLaws
pub mod Stages
pub mod MainLaws
pub mod Small
pub mod Fits
pub mod BootCodes
