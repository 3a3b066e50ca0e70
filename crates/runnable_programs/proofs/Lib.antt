pub mod Runnables
