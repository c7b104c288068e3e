pub mod Held
pub mod Parts
pub mod Waits
