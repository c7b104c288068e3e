pub mod Lints
pub mod Twice
pub mod Inside
