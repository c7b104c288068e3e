pub mod Words
pub mod WordsView
pub mod PluralsView
