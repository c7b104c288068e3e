pub mod Tree
pub mod View
pub mod Fallback
pub mod References
pub mod ReferencesOf
pub mod Same
pub mod ParserError
