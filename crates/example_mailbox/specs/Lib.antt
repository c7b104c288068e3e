pub mod Accents
pub mod Dates
pub mod Upper
