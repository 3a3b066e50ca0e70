pub mod Numbers
pub mod Apps
pub mod Lines
pub mod Reading
