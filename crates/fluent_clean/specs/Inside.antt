pub mod Table
pub mod Steps
