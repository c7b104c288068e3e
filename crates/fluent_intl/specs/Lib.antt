pub mod Decimal
pub mod Options
pub mod SameContent
pub mod Number
pub mod Operands
pub mod Plurals
pub mod LanguageTags
pub mod Hashing
