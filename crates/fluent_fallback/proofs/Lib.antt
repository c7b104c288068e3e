pub mod First
pub mod Answered
