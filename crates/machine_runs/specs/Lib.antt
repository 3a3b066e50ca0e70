pub mod Assembly
pub mod Boot
pub mod BootTable
pub mod Linked
pub mod Driving
pub mod Programs
