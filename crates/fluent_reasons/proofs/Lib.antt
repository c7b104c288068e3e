pub mod Turns
pub mod Names
pub mod ArgumentTurns
