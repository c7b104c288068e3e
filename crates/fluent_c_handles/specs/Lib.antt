pub mod Answers
pub mod Calls
pub mod Facts
pub mod Family
pub mod Handles
pub mod Inside
pub mod Rows
