pub mod Bodies
pub mod Levels
pub mod Sound
pub mod Asks
pub mod Laws
