pub mod Added
pub mod OneId
pub mod Waiting
pub mod Linking
