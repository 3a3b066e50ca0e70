pub mod Faults
pub mod MemForms
pub mod Readings
pub mod Shelves
pub mod Sinks
