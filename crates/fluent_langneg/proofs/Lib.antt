pub mod Prefixes
pub mod Once
