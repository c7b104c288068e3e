pub mod Accents
pub mod Functions
pub mod Prices
pub mod Versions
