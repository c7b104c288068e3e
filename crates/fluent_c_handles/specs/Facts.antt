-- Facts of the messages of a bundle, for callers. No contract cites them.
pub mod Added
pub mod Kept
pub mod Errors
