pub mod RuleReading
pub mod Known
pub mod Rows
