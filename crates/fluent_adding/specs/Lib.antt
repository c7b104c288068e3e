pub mod Added
pub mod Inside
