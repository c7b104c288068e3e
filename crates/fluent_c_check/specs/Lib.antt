pub mod Checks
pub mod Inside
