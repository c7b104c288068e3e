pub mod Events
pub mod Formats
pub mod Givings
pub mod Running
pub mod Parts
pub mod Asked
