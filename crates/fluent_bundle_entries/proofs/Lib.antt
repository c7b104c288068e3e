pub mod ByName
pub mod Linking
pub mod Own
